use Rattle.std.proofs.Common.{[], ◌∷◌, refl, arith}
use Rattle.tks_spelling.specs.Spelling.{text}
use Rattle.tks_spelling.proofs.Puts.{put_behind, where_put}
use Rattle.tks_codec_variables.specs.Table.{table}
use Rattle.tks_codec_variables.proofs.globals.ContentsMembersContent.put.Goals as goal

pub returns-in_ok-put_presence-in-Scalar-clause-puts : goal.returns-in_ok-put_presence-in-Scalar-clause-puts
returns-in_ok-put_presence-in-Scalar-clause-puts c =
    rw c.in-Scalar.is (put_behind c.put.result c.args.out.now.items (0 ∷ []) c.put_presence.new.out.items (text.write c.in-Scalar.value) c.put.new.out.items c.in_ok-put_presence-in-Scalar.ensures c.put.ensures.puts)

pub returns-in_ok-put_presence-in-Array-clause-puts : goal.returns-in_ok-put_presence-in-Array-clause-puts
returns-in_ok-put_presence-in-Array-clause-puts c =
    rw c.in-Array.is (put_behind c.put_table.result c.args.out.now.items (1 ∷ []) c.put_presence-in-Array.new.out.items ((table text).write c.in-Array.elements) c.put_table.new.out.items c.in_ok-put_presence-in-Array.ensures c.put_table.ensures.puts)

pub returns-in_ok-put_presence-in-Array-clause-legal : goal.returns-in_ok-put_presence-in-Array-clause-legal
returns-in_ok-put_presence-in-Array-clause-legal c =
    rw c.in-Array.is (where_put c.put_table.result (λ legal. ((omega arith, refl), (legal, refl))) c.put_table.ensures.legal)
