-- `empty` has no value.
use Rattle.std.proofs.Common.{◌≡◌, List, [], ◌∷◌, ◌++◌, refl, sym, subst}
use lib.Dec.{T, lit<}
use mir.Syntax.{w64, impl, tcons, tnil, dnil, Dict}
use mir.Raw.{raw as bare}
use mir.Val.{Val, vint, vstruct, vcons, vnil, has_ty, WT}
use base.Logic.{SProp, ent, emp, id⊢}
use base.Fml.{ftrue}
use prog.Wp.{WpFn}
use types.Kit.{‵, raw, ◌⊛◌, ◌$◌, ◌∵◌, !, qed, by, move, keep, split, fsplit, fjoin, fpack, suffices, use0, feq_i}
use types.Run.{lit, of_opd, no_more, and_then, returns, enter}
use types.ByLocal.{alloc_all, pass_all, free_all, look_at, get, sets}
use types.Part.{agg}
use contract.Monad.{fact, fact_i}
use contract.Running.{tables}
use denote.Exit.{no, yes}
use denote.RattleType.{RattleType, owns, Valss}
use denote.Signature.{types_at, plain}
use denote.RawPtr.{null_ptr, ptr_val}
use denote.Steps.{nothing}
use denote.Param.{layout, arg}
use denote.Param.Laws.{Laws, arg_laws}
use denote.Triple.Walked.{Stays, stay_dropped, walk_of, Goes-dropped}
use Rattle.core.proofs.alloc.Calls.{handle_tells}
use Rattle.std_alloc.proofs.BoxSteps.Form as box
use Rattle.std_alloc.proofs.ResultValues.{and_tt}
use Rattle.std.proofs.raw_atomic.Walks.{proved_at, leaves}
use Rattle.tikeburo_c.specs.contracts.kept.Kept as kept
use Rattle.tikeburo_c.proofs.kept.Kept.TheLaws as kept_laws
use Rattle.std.specs.contracts.alloc.Global as heap
use Rattle.std.proofs.alloc.Global.TheLaws as heap_laws
use Rattle.std.specs.contracts.impls.GlobalAllocator.TheImpl.{ghosts, dict}
use Rattle.tikeburo_c.specs.contracts.loose.Loose as loose
use denote.Struct.Struct.{within as ins}
use denote.Struct.Owning.{shape, fields, to}
use Rattle.std.specs.declared.option.Option.TheVariants.{None}
use Rattle.tikeburo_c.specs.contracts.loose.Loose.empty.{ended, clauses}
use Rattle.tikeburo_c.specs.contracts.loose.Loose.empty.Key.{name as #self}
use Rattle.tikeburo_c.proofs.loose.Loose.empty.Statement.{statement}
use Rattle.tikeburo_c.proofs.loose.Loose.empty.Code as code

abbrev A : RattleType
A = arg (bare (layout heap.the_row)) no heap.the_row

abbrev A-laws : Laws A
A-laws = arg_laws (bare (layout heap.the_row)) no heap.the_row heap_laws.the_row_laws refl

abbrev X : RattleType
X = arg (bare (layout kept.the_row)) no kept.the_row

abbrev X-laws : Laws X
X-laws = arg_laws (bare (layout kept.the_row)) no kept.the_row kept_laws.the_row_laws refl

abbrev drops : Dict
drops = impl ("tikeburo_c::Destruct++none::drop" ∷ []) (tcons (layout A) tnil) dnil

abbrev E : box.Bx
E = record { row = X; laws = X-laws; al = record { row = A; laws = A-laws; g = ghosts; d = dict; drops = drops } }

pub empty_spec : {M : Type 1} → statement M
empty_spec {M} 𝓤 𝓛 𝓜 𝓡 w =
    let H = 𝓛.H in let 𝓣 = tables 𝓤 H 𝓜 𝓡 𝓡.env in let c = clauses 𝓛 𝓜.mem 𝓡.returns in let fn = code.function in
    let hs : Stays ended.signature.params ended.kept = (stay_dropped (plain (λ _. heap.the_row)) yes, tt) in
    proved_at 𝓛 ended hs c 𝓜 𝓡 (Goes-dropped 𝓛 0 (plain (λ _. heap.the_row)) yes (λ κs x f. refl), tt) #self fn (code.unfolded 𝓤 H 𝓜 𝓡 w) (λ z are.
    let κs = z.0.0 in let a = z.0.3.0 in let Post : Val → SProp 𝓤 = (walk_of 𝓛 ended hs c).post z in let Run : List Val → SProp 𝓤 = λ ws. WpFn 𝓤 H 𝓣.C 𝓣.Λ fn ws Post in
    qed 𝓛 ((‵ ftrue ⊛ ‵ (owns (types_at ended.signature.params κs) z.0.3 z.0.4)) ∷ raw ((c κs z.0.3).requires z.1) ∷ []) ∵ split ! $ move ! (1 ∷ []) $ fsplit ! $ handle_tells E.al ! a z.0.4.0 (λ h eh fits.
    let now : (loose.the_row).Denot = record { at = null_ptr; alloc = a; value = None } in let null : Val = vint w64 0 in let both : Val = vstruct (vcons null (vcons h vnil)) in let made : T (has_ty (layout loose.the_row) both) × WT both = (and_tt (has_ty (layout A) h) fits.0, (record { fits = lit< tt }, (fits.1, tt))) in
    suffices ! (Run (h ∷ [])) (subst (λ (us : List Val). ent 𝓤 (Run (h ∷ [])) (Run us)) (sym (λ i. eh i ++ [])) (id⊢ 𝓤 (Run (h ∷ [])))) $
    enter ! 𝓣.C 𝓣.Λ fn (h ∷ []) Post $ alloc_all ! (λ l. pass_all ! refl (fits, tt) $
    sets ! (of_opd ! (lit ! tt)) refl (tt, record { fits = lit< tt }) $ sets ! (agg ! (and_then ! (get ! refl) (and_then ! (get ! refl) (no_more !)))) refl made $
    fjoin ! $ feq_i ! (List Val) (null ∷ []) (ptr_val null_ptr ∷ []) refl $ fjoin ! $ feq_i ! (List Val) (both ∷ []) (both ∷ []) refl $ fjoin ! $
    fpack ! (Valss (fields loose.the_type)) (ins (shape loose.the_type) (to loose.the_type now) (both ∷ [])) (null ∷ [], (h ∷ [], tt)) $ fjoin ! $
    use0 𝓛 (raw (fact 𝓤 (now.value ≡ None))) (fact_i 𝓤 (now.value ≡ None) (emp 𝓤) refl) $ nothing ! $ nothing ! $ fjoin ! $
    returns ! (look_at ! 0 refl) $ free_all ! refl $ nothing ! $ keep ! (0 ∷ 1 ∷ 3 ∷ 2 ∷ []) $ by ! (leaves 𝓛 ended hs c z both now (tt, tt) (tt, tt)))))
