-- Packed fallbacks read back, and a word with one digit exchanged spells the fallbacks with one set.
use Rattle.std.proofs.Common.{◌≡◌, ℕ, ◌+◌, ◌-◌, ◌*◌, ◌/◌, ◌%◌, ◌<◌, ◌==◌, zero, suc, arith, Option, None, Some, refl, ap, sym, ◌∙◌}
use Rattle.std.specs.Bool.{Decides}
use Rattle.std.proofs.lemmas.Bool.Decides.{Decides-like, Decides-eqb}
use Rattle.termwiz_cell.specs.FallbackWord.{Fallbacks, fallback_number, fallback_at, fallbacks_at, IsFallbackWord}

fallback-back : (v : Option ℕ) → fallback_at (fallback_number v) ≡ v
fallback-back None = refl
fallback-back (Some n) = grind arith

fallback-there : (n : ℕ) → fallback_number (fallback_at n) ≡ n
fallback-there zero = refl
fallback-there (suc n) = grind arith

-- the word that spells the fallbacks
abbrev word_of : Fallbacks → ℕ
word_of f = fallback_number f.foreground + fallback_number f.background * 512

word_of-fallbacks_at : (w : ℕ) → word_of (fallbacks_at w) ≡ w
word_of-fallbacks_at w = omega (arith, fallback-there (w % 512), fallback-there (w / 512))

-- words that spell the same fallbacks are the same
pub same-words : (w v : ℕ) → Decides (w == v) (fallbacks_at w ≡ fallbacks_at v)
same-words w v = Decides-like (w == v) (ap fallbacks_at) (λ e. sym (word_of-fallbacks_at w) ∙ ap word_of e ∙ word_of-fallbacks_at v) (Decides-eqb w v)

module _ (w d : ℕ) (v : Option ℕ) (is : d ≡ fallback_number v) (h : d < 257) where
  spelt : (n : ℕ) → n ≡ d → fallback_at n ≡ v
  spelt n e = ap fallback_at (e ∙ is) ∙ fallback-back v

  pub foreground-spelt : fallbacks_at (w - w % 512 + d) ≡ record (fallbacks_at w) { foreground = v }
  foreground-spelt =
      let low : (w - w % 512 + d) % 512 ≡ d = omega (arith, h) in
      let high : (w - w % 512 + d) / 512 ≡ w / 512 = omega (arith, h) in
      λ i. record { foreground = spelt ((w - w % 512 + d) % 512) low i; background = fallback_at (high i) }

  pub background-spelt : fallbacks_at (w % 512 + d * 512) ≡ record (fallbacks_at w) { background = v }
  background-spelt =
      let low : (w % 512 + d * 512) % 512 ≡ w % 512 = omega arith in
      let high : (w % 512 + d * 512) / 512 ≡ d = omega arith in
      λ i. record { foreground = fallback_at (low i); background = spelt ((w % 512 + d * 512) / 512) high i }

pub foreground-sound : (w d : ℕ) → IsFallbackWord w → d < 257 → IsFallbackWord (w - w % 512 + d)
foreground-sound w d s h = record { foreground = omega (arith, h); background = omega (arith, h, s.background) }

pub background-sound : (w d : ℕ) → IsFallbackWord w → d < 257 → IsFallbackWord (w % 512 + d * 512)
background-sound w d s h = record { foreground = omega (arith, s.foreground); background = omega (arith, h) }

pub ruleset foreground = (foreground-spelt, foreground-sound)

pub ruleset background = (background-spelt, background-sound)
