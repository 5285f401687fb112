use Rattle.std.proofs.Common.{◌≡◌, true, Some, IfSome, sym, subst, ◌∙◌}
use Rattle.tks_list.specs.Growing.{IsSpelled, AreElements}
use Rattle.tks_list.specs.Reading.{list_of}
use Rattle.tks_list.proofs.Grown.{spelled_more, kept_longer}
use Rattle.tks_list.proofs.growing.ListText.append.Goals as goal
use Rattle.tks_list.proofs.growing.ListText.append.Goals.{then-self, else-self}

pub invariant_of-self-2 : goal.invariant_of-self-2
invariant_of-self-2 c =
    let text = c.self.inside.text in
    let more = c.more.inside.text in
    let is_spelled : c.if-self.self ≡ true → IsSpelled text = elim c.if-self.branch [
      | then-self w ↦ λ e. c.self.invariant.spelled w.if-self.true
      | else-self w ↦ λ e. absurd (cc)
    ] in
    let are_elements : c.if-self.self ≡ true → AreElements more = elim c.if-self.branch [
      | then-self w ↦ λ e. c.more.invariant (sym w.self-is ∙ e)
      | else-self w ↦ λ e. absurd (cc)
    ] in
    let kept = subst (λ o. IfSome o (λ l. list_of text ≡ Some l)) (sym c.take.ensures.value) c.self.invariant.kept in
    record {
      spelled = λ e. spelled_more text more c.append.new.self (is_spelled e) (are_elements e) c.in_ok-append.ensures.ok;
      kept = kept_longer c.take.result c.longer.result c.if-self.self text more c.append.new.self is_spelled are_elements c.in_ok-append.ensures.ok kept c.longer.ensures;
    }
