-- `of` takes the box apart.
use Rattle.std.proofs.Common.{◌≡◌, List, [], ◌∷◌, ◌++◌, refl, sym, ap, ◌∙◌, subst}
use mir.Syntax.{impl, tcons, tnil, dnil, Dict, method, no_args}
use mir.Raw.{raw as bare}
use mir.Val.{Val, vptr, vstruct, of_list}
use base.Fraction.{full_share}
use base.Logic.{SProp, ent, emp, never, fst∗, id⊢}
use base.Fml.{ftrue, fsep, flft}
use prog.Wp.{WpFn}
use types.Logic.{sem}
use types.Kit.{‵, raw, ◌⊛◌, some, later, ◌$◌, ◌∵◌, !, qed, by, move, keep, drop, split, split3, join, fsplit, fjoin, fpick, fpack, pick, suffices, use0, use1, await, rewrite, feq_i, feq_l}
use types.Tokens.{lft_new}
use types.Run.{stop, fld, of_opd, no_more, and_then, returns, enter}
use types.ByLocal.{alloc_all, pass_all, free_all, look_at, get, get_in, sets, lands_as}
use types.Part.{agg, sub, whole}
use contract.Monad.{fact, fact_i}
use contract.BorrowLft.{◌⊑◌, ⊑_static, ⊑_refl}
use contract.Running.{tables, within}
use denote.Exit.{no}
use denote.RattleType.{RattleType, owns, Valss}
use denote.Signature.{types_at, plain}
use denote.RawPtr.{Ptr, block_ptr, null_ptr, ptr_val, in_a_block}
use denote.Steps.{nothing, only, heard}
use denote.Builtin.{RawPtr}
use denote.Struct.Tuple.{Tuple}
use denote.Param.{layout, arg}
use denote.Param.Laws.{Laws, arg_laws}
use denote.Param.NoDrop as no_drop
use denote.Triple.Clauses.{Lasts, lasts, at_exit, Ended}
use denote.Triple.Spec.{triple_of}
use denote.Triple.Table.{widened}
use denote.Triple.Call.{calls_at}
use denote.Triple.Walked.{Stays, stay_dropped, walk_of, Goes-dropped, Fit}
use Rattle.core.proofs.alloc.Calls.{handle_tells}
use Rattle.core.proofs.atomic.Steps.{fm}
use Rattle.std.specs.Box.Ownership.{box_owns}
use Rattle.std_alloc.proofs.BoxSteps.Form as box
use Rattle.std_alloc.proofs.BoxSteps.Steps.{box_out, box_in}
use Rattle.std.proofs.raw_atomic.Walks.{proved_at, leaves}
use Rattle.std_alloc.specs.contracts.boxed.Box as boxed
use Rattle.tikeburo_c.specs.contracts.kept.Kept as kept
use Rattle.tikeburo_c.proofs.kept.Kept.TheLaws as kept_laws
use Rattle.std.specs.contracts.alloc.Global as heap
use Rattle.std.proofs.alloc.Global.TheLaws as heap_laws
use Rattle.std.specs.contracts.impls.GlobalAllocator.TheImpl.{ghosts, dict}
use Rattle.std.proofs.impls.GlobalAllocator.TheImpl.Met as heap_met
use Rattle.std.specs.contracts.boxed.Box.into_raw_with_allocator as callee
use Rattle.std.proofs.boxed.Box.into_raw_with_allocator.Met.{met}
use Rattle.tikeburo_c.specs.contracts.loose.Loose as loose
use Rattle.tikeburo_c.proofs.tikeburo_c++kept++Kept+Destruct.drop.Met as glue_met
use Rattle.tikeburo_c.proofs.tikeburo_c++kept++Kept+Destruct.drop.Kinds as glue_kinds
use Rattle.tikeburo_c.proofs.tikeburo_c++kept++Kept+Destruct.drop.Reads as glue_reads
use Rattle.tikeburo_c.proofs.tikeburo_c++kept++Kept+Destruct.drop.Symbol as glue_symbol
use denote.Struct.Struct.{within as ins}
use denote.Struct.Owning.{shape, fields, to}
use borrow.Fn.Glue.{glue_by, glue_ps}
use borrow.Fn.Impl.{via_longer}
use borrow.Fn.Kinds.{ended_of, stays, r_unit}
use borrow.Fn.Run.{Over}
use denote.Triple.Carry.{AllWithin}
use Rattle.std.specs.declared.option.Option.TheVariants.{Some}
use Rattle.tikeburo_c.specs.contracts.loose.Loose.of.{ended, clauses}
use Rattle.tikeburo_c.specs.contracts.loose.Loose.of.Key.{name as #self}
use Rattle.tikeburo_c.proofs.loose.Loose.of.Statement.{statement}
use Rattle.tikeburo_c.proofs.loose.Loose.of.Code as code

abbrev A : RattleType
A = arg (bare (layout heap.the_row)) no heap.the_row

abbrev A-laws : Laws A
A-laws = arg_laws (bare (layout heap.the_row)) no heap.the_row heap_laws.the_row_laws refl

abbrev X : RattleType
X = arg (bare (layout kept.the_row)) no kept.the_row

abbrev X-laws : Laws X
X-laws = arg_laws (bare (layout kept.the_row)) no kept.the_row kept_laws.the_row_laws refl

abbrev drops : Dict
drops = impl ("tikeburo_c::Destruct++none::drop" ∷ []) (tcons (layout A) tnil) dnil

abbrev glue-of : Dict
glue-of = impl ("tikeburo_c::tikeburo_c++kept++Kept+Destruct::drop" ∷ []) tnil dnil

abbrev E : box.Bx
E = record { row = X; laws = X-laws; al = record { row = A; laws = A-laws; g = ghosts; d = dict; drops = drops } }

abbrev Boxed : RattleType
Boxed = boxed.the_row kept.the_row heap.the_row ghosts

abbrev gone : Ended
gone = ended_of 1 glue_kinds.ps glue_kinds.r

pub of_spec : {M : Type 1} → statement M
unfolding Rattle.tikeburo_c.proofs.Destruct++none.drop.Code.code
of_spec {M} 𝓤 𝓛 𝓜 𝓡 w =
    let 𝓡' = within 𝓤 𝓛.H 𝓜 𝓡 𝓡.env in
    let glued = glue_by X X-laws (record { M = M; 𝓤 = 𝓤; 𝓛 = 𝓛; 𝓜 = 𝓜; 𝓡 = 𝓡 }) glue-of 𝓡.env
    (λ κs a. Lasts gone ([], tt) a) (λ κs a. lasts gone ([], tt) a) (λ κs a x ws. Fit gone (stays glue_kinds.ps) ([], tt) a ws × glue_reads.Learnt ([], tt) a x (at_exit gone ([], tt) a ws))
    (λ κs a. AllWithin 1 (κs.0, tt) (X.lives, tt) × Unit {0}) 1 ((0, tt), tt) (λ κs a h. ((h, tt), tt))
    (via_longer 𝓛 (Over 𝓛 𝓜 𝓡 𝓡.env) 1 (glue_ps X X-laws) r_unit
    (λ κs a. Lasts gone ([], tt) a) (λ κs a. lasts gone ([], tt) a) (λ κs a x ws. Fit gone (stays glue_kinds.ps) ([], tt) a ws × glue_reads.Learnt ([], tt) a x (at_exit gone ([], tt) a ws))
    (λ κs a. AllWithin 1 (κs.0, tt) (X.lives, tt) × Unit {0}) (method glue-of 0 no_args) 1 ((0, tt), tt) (λ κs. ([], tt)) (λ κs a. glue_reads.Asked ([], tt) a) (λ κs a p. ((⊑_static κs.0, tt), tt))
    (λ κs bd within a vss qs. glue_reads.known (record { M = M; 𝓤 = 𝓤; 𝓛 = 𝓛; 𝓜 = 𝓜; 𝓡 = 𝓡 }) 𝓡.env (method glue-of 0 no_args) (𝓡.env (method glue-of 0 no_args)) refl
    (widened 𝓤 𝓛.H _ 𝓜 𝓡 𝓡.env (𝓡.env glue_symbol.name) (𝓡.env (method glue-of 0 no_args))
    (glue_symbol.as_method 𝓡.env (code.calls-tikeburo_c::tikeburo_c++kept++Kept+Destruct::drop 𝓡.env w) (method glue-of 0 no_args) refl)
    (glue_met.met 𝓤 𝓛 𝓜 𝓡 (code.calls-tikeburo_c::tikeburo_c++kept++Kept+Destruct::drop 𝓡.env w))) ((([], tt), qs, (⊑_refl [], tt), a, vss), tt))) in
    let known = met 𝓤 𝓛 𝓜 𝓡' (code.calls-std::boxed::Box::into_raw_with_allocator 𝓡.env w) X A X-laws A-laws ghosts dict drops glue-of
    (heap_met.passed 𝓡.env (code.calls-std_heap::GlobalAllocator::allocate 𝓡.env w) (code.calls-std_heap::GlobalAllocator::deallocate 𝓡.env w) (code.calls-std_heap::GlobalAllocator::grow 𝓡.env w) (code.calls-std_heap::GlobalAllocator::shrink 𝓡.env w) M 𝓤 𝓛 𝓜 𝓡)
    (no_drop.glues "tikeburo_c::Destruct++none::drop" 𝓡.env (code.calls-tikeburo_c::Destruct++none::drop 𝓡.env w) A A-laws M 𝓤 𝓛 𝓜 𝓡) glued in
    let H = 𝓛.H in let 𝓣 = tables 𝓤 H 𝓜 𝓡 𝓡.env in let c = clauses 𝓛 𝓜.mem 𝓡.returns in let fn = code.function in
    let hs : Stays ended.signature.params ended.kept = (stay_dropped (plain (λ _. Boxed)) no, tt) in
    proved_at 𝓛 ended hs c 𝓜 𝓡 (Goes-dropped 𝓛 0 (plain (λ _. Boxed)) no (λ κs x f. refl), tt) #self fn (code.unfolded 𝓤 H 𝓜 𝓡 w) (λ z are.
    let κs = z.0.0 in let v = z.0.3.0 in let a = v.alloc in let Post : Val → SProp 𝓤 = (walk_of 𝓛 ended hs c).post z in let Run : List Val → SProp 𝓤 = λ ws. WpFn 𝓤 H 𝓣.C 𝓣.Λ fn ws Post in
    qed 𝓛 ((‵ ftrue ⊛ ‵ (owns (types_at ended.signature.params κs) z.0.3 z.0.4)) ∷ raw ((c κs z.0.3).requires z.1) ∷ []) ∵ split ! $ move ! (1 ∷ []) $ fsplit ! $
    box_out E ! v z.0.4.0 (λ b o h e ws fits. box_in E ! v b o v.value e refl $
    let word : Val = box.word E h b o in let typed = box.box_typed E h b o fits in
    let k = triple_of 𝓛 (callee.signature X A ghosts dict drops glue-of) (callee.spec X A ghosts dict drops glue-of 𝓛 𝓜.mem 𝓡.returns) in
    let Pair = Tuple (RawPtr ∷ box.P E ∷ []) in
    suffices ! (Run (word ∷ [])) (subst (λ (us : List Val). ent 𝓤 (Run (word ∷ [])) (Run us)) (sym (λ i. ws i ++ [])) (id⊢ 𝓤 (Run (word ∷ [])))) $
    enter ! 𝓣.C 𝓣.Λ fn (word ∷ []) Post $ alloc_all ! (λ l. pass_all ! refl (typed, tt) $ sets ! (of_opd ! (get ! refl)) refl typed $
    -- [the box; nothing, three times; the locals]
    lft_new ! tt (λ α. lft_new ! tt (λ β.
    let κ₀ = α ∷ [] in let κ₁ = β ∷ [] in
    let y : k.Ghost = (((κ₀, (κ₁, tt)), (full_share, (full_share, tt)), tt, (v, tt), (word ∷ [], tt)), tt) in
    let toks = ‵ (flft κ₀ full_share) ⊛ ‵ (flft κ₁ full_share) ⊛ ‵ ftrue in
    nothing ! $ move ! (1 ∷ 0 ∷ []) $ join ! $ move ! (1 ∷ 0 ∷ []) $ join ! $
    move ! (1 ∷ 2 ∷ []) $ fjoin ! $ move ! (1 ∷ 0 ∷ []) $ join ! $
    nothing ! $ use0 𝓛 (raw (fact 𝓤 (κ₁ ⊑ A.lives))) (fact_i 𝓤 (κ₁ ⊑ A.lives) (emp 𝓤) (⊑_static κ₁)) $ join ! $
    use0 𝓛 (raw (fact 𝓤 (κ₀ ⊑ X.lives))) (fact_i 𝓤 (κ₀ ⊑ X.lives) (emp 𝓤) (⊑_static κ₀)) $ join ! $ move ! (1 ∷ 0 ∷ []) $ join ! $ use1 𝓛 (raw (k.pre y)) (id⊢ 𝓤 _) $
    calls_at ! (fm 𝓛 𝓜 𝓡) k known y (and_then ! (get ! refl) (no_more !)) (λ u.
    use1 𝓛 (later (some (λ (r : Ptr × A.Denot). (toks ⊛ ‵ (Pair.own_val r (u ∷ []))) ⊛ some (λ (_ : (Unit {0} × (Unit {0} × Unit {0})) × Unit {0}). ‵ (fsep (fsep ftrue (fsep ftrue ftrue)) ftrue) ⊛ (raw (fact 𝓤 (r.1 ≡ a)) ⊛ ‵ (box_owns (ghosts.dealloc_token a) (box.R E) r.0 v.value)))))) (id⊢ 𝓤 _) $
    await ! tt $ pick ! (λ r. split ! $ move ! (1 ∷ []) $ pick ! (λ _. split3 ! $ drop ! $ heard ! (r.1 ≡ a) (λ ea.
    in_a_block ! r.0 (λ p. box_owns (ghosts.dealloc_token a) (box.R E) p v.value) (fst∗ 𝓤 (never 𝓤) (sem 𝓛 (ghosts.dealloc_token a (bare (box.τ E)) null_ptr))) (λ b' o' e'.
    move ! (1 ∷ []) $ split ! $ move ! (1 ∷ []) $ fpick ! (λ vss. fsplit ! $ feq_l ! (λ eu. fsplit ! $ feq_l ! (λ ep. fsplit ! $ rewrite ! 0 (λ (s : A.Denot). ‵ (A.own_val s vss.1.0)) ea refl $ handle_tells E.al ! a vss.1.0 (λ h' eh fits'.
    let now : (loose.the_row).Denot = record { at = block_ptr b' o'; alloc = a; value = Some v.value } in let both : Val = box.word E h' b' o' in let made = box.box_typed E h' b' o' fits' in
    lands_as ! (ap only (eu ∙ (λ j. vstruct (of_list ((ep ∙ ap (λ (p : Ptr). ptr_val p ∷ []) e') j ++ (eh j ++ []))) ∷ []))) refl made $
    sets ! (of_opd ! (get_in ! (fld ! refl (stop !)) (sub ! 0 refl (whole !)))) refl (tt, tt) $ sets ! (of_opd ! (get_in ! (fld ! refl (stop !)) (sub ! 1 refl (whole !)))) refl fits' $
    sets ! (of_opd ! (get ! refl)) refl (tt, tt) $ sets ! (agg ! (and_then ! (get ! refl) (and_then ! (get ! refl) (no_more !)))) refl made $
    -- [the handle; nothing; the tokens; what the box owned; ..]
    fjoin ! $ feq_i ! (List Val) (vptr b' o' ∷ []) (vptr b' o' ∷ []) refl $ fjoin ! $ feq_i ! (List Val) (both ∷ []) (both ∷ []) refl $ fjoin ! $
    fpack ! (Valss (fields loose.the_type)) (ins (shape loose.the_type) (to loose.the_type now) (both ∷ [])) (vptr b' o' ∷ [], (h' ∷ [], tt)) $ move ! (0 ∷ 2 ∷ []) $ fjoin ! $
    use0 𝓛 (raw (fact 𝓤 (Some v.value ≡ Some v.value))) (fact_i 𝓤 (Some v.value ≡ Some v.value) (emp 𝓤) refl) $ nothing ! $ nothing ! $ fjoin ! $
    returns ! (look_at ! 0 refl) $ free_all ! refl $ nothing ! $ keep ! (0 ∷ 1 ∷ 3 ∷ 2 ∷ []) $ by ! (leaves 𝓛 ended hs c z both now (tt, tt) (tt, tt))))))))))))))))
