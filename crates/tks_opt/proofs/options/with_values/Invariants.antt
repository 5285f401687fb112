use Rattle.std.proofs.Common.{◌≡◌, [], length}
use Rattle.std.specs.List.{zip}
use Rattle.std.specs.Vec.Iter.{into_iter_items, into_iter_len}
use Rattle.indexmap.specs.IndexMap.{insert_all}
use Rattle.tks_opt.specs.Options.{same_name}
use Rattle.tks_opt.proofs.options.with_values.Given as goal

-- with the options further on, those so far are all
abbrev pub invariant-loop-value : goal.invariant-loop-value
invariant-loop-value l = record {
  left : into_iter_len l.value-iterator ≡ length (into_iter_items l.value-iterator);
  all : insert_all same_name l.kept.entries (zip l.rest (into_iter_items l.value-iterator)) ≡ insert_all same_name [] (zip l.fn.names l.fn.values);
}
