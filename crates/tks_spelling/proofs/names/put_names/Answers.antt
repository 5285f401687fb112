use Rattle.std.proofs.Common.{◌++◌, List, ℕ, None, ◌∙◌, length, ap, subst}
use Rattle.std.specs.Int.{w32, to_be_bytes}
use Rattle.tks_spelling.specs.Spelling.{text, texts}
use Rattle.tks_spelling.specs.Header.{may_follow}
use Rattle.tks_spelling.specs.Writing.{PutsSo}
use Rattle.tks_spelling.proofs.Headers.{names_legal}
use Rattle.tks_spelling.proofs.Loop.{same_members}
use Rattle.tks_spelling.proofs.Puts.{where_put}
use Rattle.tks_spelling.proofs.names.put_names.Goals as goal

pub returns-clause-puts : goal.returns-clause-puts
returns-clause-puts c =
    let ns = c.args.names.now in
    let same = ap texts.write c.as_slice.ensures.value ∙ ap (λ (w : List ℕ). to_be_bytes w32 (length ns) ++ w) (same_members may_follow text None None ns) in
    subst (PutsSo c.put_list.result c.args.out.now.items c.put_list.new.out.items) same c.put_list.ensures.puts

pub returns-clause-legal : goal.returns-clause-legal
returns-clause-legal c =
    let ns = c.args.names.now in
    where_put c.put_list.result (λ h. names_legal ns c.requires (subst texts.Legal c.as_slice.ensures.value h)) c.put_list.ensures.legal
