use Rattle.std.proofs.Common.{◌≡◌, ◌≤◌, ◌-◌, ◌+◌, true, List, length, take, drop, map, ap, sym, ◌∙◌, arith}
use Rattle.std.proofs.lemmas.List.{drop-drop, length-map}
use Rattle.termwiz_cell.specs.declared.change.Change.{Change}
use Rattle.termwiz_cell.specs.ChangeValue.{change_value}
use Rattle.termwiz_screen.specs.Log.{due, next_number, reaches}
use Rattle.termwiz_screen.proofs.Logs.{known, reached, rest_mapped}
use Rattle.termwiz_screen.proofs.log.Log.due.Goals as goal

pub returns-clause-some : goal.returns-clause-some
returns-clause-some c =
    let own = c.self.inside in
    let log = c.args.self.now in
    let seq = c.args.seq in
    let in_log : reaches log seq ≡ true = sym c.if-not-reaches.ensures in
    let within : (log.first ≤ seq) × (seq ≤ next_number log) = reached log seq in_log in
    let first : own.base + own.gone ≡ log.first = ap (λ l. l.first) c.self.view_is in
    let s : List Change = c.deref.result.now in
    let k = seq - own.base in
    let behind = seq - (own.base + own.gone) in
    let sum : k ≡ own.gone + behind = omega (arith, within.0, first) in
    let all = map change_value own.stored.items in
    let same : map change_value (take (length s - k) (drop k s)) ≡ due log seq =
    rest_mapped change_value s k (length s - k) (omega arith) ∙ ap (λ t. drop k (map change_value t)) c.deref.ensures.value
    ∙ ap (λ n. drop n all) sum ∙ sym (drop-drop behind own.gone all) ∙ ap (λ l. due l seq) c.self.view_is in
    let few : length (due log seq) ≤ c.args.most = omega (arith, c.if-due-most.false, ap length same, length-map (take (length s - k) (drop k s)) change_value) in
    (known log seq within.0 within.1 c.args.most c.if-seq-eq-SEQ_ZERO.false few, same)
