-- `into_box` makes the box again.
use Rattle.std.proofs.Common.{◌≡◌, List, [], ◌∷◌, ◌++◌, refl, sym, ap, ◌∙◌, subst, true≢false}
use mathlib.Core.Bool.{true}
use Rattle.std.specs.declared.option.Option.{Option}
use Rattle.std.specs.declared.option.Option.TheVariants.{None, Some}
use Rattle.tikeburo_c.specs.declared.kept.Kept.{Kept}
use Rattle.tikeburo_c.specs.Held.{held, is_some}
use mir.Syntax.{impl, tcons, tnil, dnil, Dict}
use mir.Raw.{raw as bare}
use mir.Val.{Val, vptr, vstruct, vcons, vnil, of_list}
use base.Fraction.{full_share}
use base.Logic.{SProp, ent, emp, never, fst∗, id⊢}
use base.Fml.{ftrue, flft}
use prog.Wp.{WpFn}
use types.Logic.{sem}
use types.Kit.{‵, raw, ◌⊛◌, some, later, at_ret, ◌$◌, ◌∵◌, !, qed, by, move, keep, drop, split, split3, join, fsplit, fjoin, fpick, pick, suffices, use0, use1, await, rewrite, feq_i, feq_l}
use types.Tokens.{lft_new}
use types.Run.{stop, fld, of_opd, no_more, and_then, first, blocks, exec, returns, enter}
use types.ByLocal.{alloc_all, pass_all, free_all, look_at, get, get_in, sets, lands_last, env}
use types.Part.{sub, whole}
use contract.Monad.{fact, fact_i}
use contract.BorrowLft.{◌⊑◌, ⊑_static}
use contract.Running.{tables, within}
use denote.Exit.{no, yes}
use denote.RattleType.{RattleType, owns}
use denote.Signature.{types_at, plain}
use denote.RawPtr.{Ptr, block_ptr, null_ptr, ptr_val, in_a_block}
use denote.Steps.{nothing, only, heard}
use denote.Param.{layout, arg}
use denote.Param.Laws.{Laws, arg_laws}
use denote.Param.NoDrop as no_drop
use denote.Triple.Clauses.{Lasts, lasts}
use denote.Triple.Spec.{triple_of}
use denote.Triple.Call.{calls_at_last}
use denote.Triple.Walked.{Stays, stay_dropped, walk_of, Goes-dropped}
use Rattle.core.proofs.alloc.Calls.{handle_tells}
use Rattle.core.proofs.alloc.Shapes.{after}
use Rattle.core.proofs.atomic.Steps.{fm}
use Rattle.core.proofs.cell.Inside.{Good}
use Rattle.std.specs.Box.Ownership.{box_owns}
use Rattle.std_alloc.proofs.BoxSteps.Form as box
use Rattle.std_alloc.proofs.BoxSteps.Steps.{box_out, box_in}
use Rattle.std.proofs.raw_atomic.Walks.{proved_at, leaves}
use Rattle.tikeburo_c.specs.contracts.kept.Kept as kept
use Rattle.tikeburo_c.proofs.kept.Kept.TheLaws as kept_laws
use Rattle.std.specs.contracts.alloc.Global as heap
use Rattle.std.proofs.alloc.Global.TheLaws as heap_laws
use Rattle.std.specs.contracts.impls.GlobalAllocator.TheImpl.{ghosts, dict}
use Rattle.std.proofs.impls.GlobalAllocator.TheImpl.Met as heap_met
use Rattle.std.specs.contracts.boxed.Box.from_raw as callee
use Rattle.std.proofs.boxed.Box.from_raw.Met.{met}
use Rattle.tikeburo_c.specs.contracts.loose.Loose as loose
use Rattle.tikeburo_c.specs.contracts.loose.Loose.into_box.{ended, clauses}
use Rattle.tikeburo_c.specs.contracts.loose.Loose.into_box.Key.{name as #self}
use Rattle.tikeburo_c.proofs.loose.Loose.into_box.Statement.{statement}
use Rattle.tikeburo_c.proofs.loose.Loose.into_box.Code as code

abbrev A : RattleType
A = arg (bare (layout heap.the_row)) no heap.the_row

abbrev A-laws : Laws A
A-laws = arg_laws (bare (layout heap.the_row)) no heap.the_row heap_laws.the_row_laws refl

abbrev X : RattleType
X = arg (bare (layout kept.the_row)) no kept.the_row

abbrev X-laws : Laws X
X-laws = arg_laws (bare (layout kept.the_row)) no kept.the_row kept_laws.the_row_laws refl

abbrev drops : Dict
drops = impl ("tikeburo_c::Destruct++none::drop" ∷ []) (tcons (layout A) tnil) dnil

abbrev E : box.Bx
E = record { row = X; laws = X-laws; al = record { row = A; laws = A-laws; g = ghosts; d = dict; drops = drops } }

some_of : (o : Option Kept) → is_some o ≡ true → (x : Kept) × (o ≡ Some x)
some_of (Some x) e = (x, refl)
some_of None e = absurd (true≢false (sym e))

pub into_box_spec : {M : Type 1} → statement M
unfolding Rattle.tikeburo_c.proofs.Destruct++none.drop.Code.code
into_box_spec {M} 𝓤 𝓛 𝓜 𝓡 w =
    let 𝓡' = within 𝓤 𝓛.H 𝓜 𝓡 𝓡.env in
    let known = met 𝓤 𝓛 𝓜 𝓡' (code.calls-std::boxed::Box::from_raw 𝓡.env w) X A X-laws A-laws ghosts dict drops
    (heap_met.passed 𝓡.env (code.calls-std_heap::GlobalAllocator::allocate 𝓡.env w) (code.calls-std_heap::GlobalAllocator::deallocate 𝓡.env w) (code.calls-std_heap::GlobalAllocator::grow 𝓡.env w) (code.calls-std_heap::GlobalAllocator::shrink 𝓡.env w) M 𝓤 𝓛 𝓜 𝓡)
    (no_drop.glues "tikeburo_c::Destruct++none::drop" 𝓡.env (code.calls-tikeburo_c::Destruct++none::drop 𝓡.env w) A A-laws M 𝓤 𝓛 𝓜 𝓡) in
    let H = 𝓛.H in let 𝓣 = tables 𝓤 H 𝓜 𝓡 𝓡.env in let c = clauses 𝓛 𝓜.mem 𝓡.returns in let fn = code.function in
    let hs : Stays ended.signature.params ended.kept = (stay_dropped (plain (λ _. loose.the_row)) yes, tt) in
    proved_at 𝓛 ended hs c 𝓜 𝓡 (Goes-dropped 𝓛 0 (plain (λ _. loose.the_row)) yes (λ κs x f. refl), tt) #self fn (code.unfolded 𝓤 H 𝓜 𝓡 w) (λ z are.
    let κs = z.0.0 in let qs = z.0.1 in let v = z.0.3.0 in let a = v.alloc in let Post : Val → SProp 𝓤 = (walk_of 𝓛 ended hs c).post z in let Run : List Val → SProp 𝓤 = λ ws. WpFn 𝓤 H 𝓣.C 𝓣.Λ fn ws Post in
    qed 𝓛 ((‵ ftrue ⊛ ‵ (owns (types_at ended.signature.params κs) z.0.3 z.0.4)) ∷ raw (fact 𝓤 (is_some v.value ≡ true)) ∷ []) ∵ move ! (1 ∷ []) $ heard ! (is_some v.value ≡ true) (λ live. let x = (some_of v.value live).0 in let is = (some_of v.value live).1 in split ! $ move ! (1 ∷ []) $ fsplit ! $
    fsplit ! $ fpick ! (λ vss. fsplit ! $ feq_l ! (λ ev. fsplit ! $ feq_l ! (λ ep. fsplit ! $ handle_tells E.al ! a vss.1.0 (λ h ea fits. move ! (1 ∷ []) $ drop ! $ move ! (1 ∷ []) $ rewrite ! 0 (λ (m : Option Kept). ‵ (held a v.at m)) is refl $
    in_a_block ! v.at (λ p. box_owns (ghosts.dealloc_token a) kept.the_row p x) (fst∗ 𝓤 (never 𝓤) (sem 𝓛 (ghosts.dealloc_token a (bare (layout kept.the_row)) null_ptr))) (λ b o e.
    let both : Val = vstruct (vcons (vptr b o) (vcons h vnil)) in
    let ws : z.0.4.0 ≡ both ∷ [] = subst (λ (p : Ptr). z.0.4.0 ≡ vstruct (of_list (ptr_val p ∷ h ∷ [])) ∷ []) e (subst (λ (xs : List Val). z.0.4.0 ≡ vstruct (of_list (ptr_val v.at ∷ (xs ++ []))) ∷ []) ea (subst (λ (ps : List Val). z.0.4.0 ≡ vstruct (of_list (ps ++ (vss.1.0 ++ []))) ∷ []) ep ev)) in
    let typed = box.box_typed E h b o fits in
    let k = triple_of 𝓛 (callee.signature X A ghosts dict drops) (callee.spec X A ghosts dict drops 𝓛 𝓜.mem 𝓡.returns) in
    let B : RattleType = box.B E in
    suffices ! (Run (both ∷ [])) (subst (λ (us : List Val). ent 𝓤 (Run (both ∷ [])) (Run us)) (sym (λ i. ws i ++ [])) (id⊢ 𝓤 (Run (both ∷ [])))) $
    enter ! 𝓣.C 𝓣.Λ fn (both ∷ []) Post $ alloc_all ! (λ l. pass_all ! refl (typed, tt) $ let Ev = env fn.locals l in
    sets ! (of_opd ! (get_in ! (fld ! refl (stop !)) (sub ! 0 refl (whole !)))) refl (tt, tt) $ sets ! (of_opd ! (get_in ! (fld ! refl (stop !)) (sub ! 1 refl (whole !)))) refl fits $
    first ! $ blocks ! $ sets ! (of_opd ! (get ! refl)) refl (tt, tt) $
    lft_new ! tt (λ α. lft_new ! tt (λ β.
    let κ₀ = α ∷ [] in let κ₁ = β ∷ [] in
    let y : k.Ghost = (((κ₀, (κ₁, tt)), (full_share, (full_share, tt)), tt, (a, (block_ptr b o, tt)), (h ∷ [], (vptr b o ∷ [], tt))), x) in
    let toks = ‵ (flft κ₀ full_share) ⊛ ‵ (flft κ₁ full_share) ⊛ ‵ ftrue in
    nothing ! $ move ! (1 ∷ 0 ∷ []) $ join ! $ move ! (1 ∷ 0 ∷ []) $ join ! $
    move ! (1 ∷ []) $ use0 𝓛 (raw (fact 𝓤 (κ₁ ⊑ A.lives))) (fact_i 𝓤 (κ₁ ⊑ A.lives) (emp 𝓤) (⊑_static κ₁)) $ join ! $
    use0 𝓛 (raw (fact 𝓤 (κ₀ ⊑ X.lives))) (fact_i 𝓤 (κ₀ ⊑ X.lives) (emp 𝓤) (⊑_static κ₀)) $ join ! $
    nothing ! $ feq_i ! (List Val) (vptr b o ∷ []) (vptr b o ∷ []) refl $ fjoin ! $ move ! (3 ∷ 0 ∷ []) $ fjoin ! $ move ! (2 ∷ 0 ∷ []) $ join ! $ join ! $ use1 𝓛 (raw (k.pre y)) (id⊢ 𝓤 _) $
    calls_at_last ! (fm 𝓛 𝓜 𝓡) k known y (and_then ! (get ! refl) (and_then ! (get ! refl) (no_more !))) (λ u.
    use1 𝓛 (later (some (λ (r : B.Denot). (toks ⊛ ‵ (B.own_val r (u ∷ []))) ⊛ some (λ (ls : Lasts (callee.ended X A ghosts dict drops) (κ₀, (κ₁, tt)) y.0.3). ‵ (lasts (callee.ended X A ghosts dict drops) (κ₀, (κ₁, tt)) y.0.3 ls) ⊛ (raw (fact 𝓤 (r.value ≡ x)) ⊛ raw (fact 𝓤 (r.alloc ≡ a))))))) (id⊢ 𝓤 (k.post y u)) $
    await ! tt $ pick ! (λ r. split ! $ move ! (1 ∷ []) $ pick ! (λ _. split3 ! $ drop ! $ heard ! (r.value ≡ x) (λ same. drop ! $ split ! $ move ! (1 ∷ []) $
    box_out E ! r (u ∷ []) (λ b' o' h' e' us fits'. box_in E ! r b' o' r.value e' refl $ rewrite ! 0 (λ (xs : List Val). ‵ (B.own_val r xs)) (sym us) refl $
    let good : Good (layout B) u = subst (Good (layout B)) (sym (ap only us)) (box.box_typed E h' b' o' fits') in
    lands_last ! refl good $ exec ! 𝓣.C 𝓣.Λ Ev (after 3 fn.body) (at_ret Ev Post) $ sets ! (of_opd ! (get ! refl)) refl good $ use0 𝓛 (raw (fact 𝓤 (Some r.value ≡ v.value))) (fact_i 𝓤 (Some r.value ≡ v.value) (emp 𝓤) (ap Some same ∙ sym is)) $ nothing ! $ nothing ! $ fjoin ! $
    returns ! (look_at ! 0 refl) $ free_all ! refl $ nothing ! $ keep ! (0 ∷ 1 ∷ 3 ∷ 2 ∷ []) $ by ! (leaves 𝓛 ended hs c z u r (tt, tt) (tt, tt)))))))))))))))))
