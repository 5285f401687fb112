use Rattle.std.proofs.Common.{◌≡◌, drop, true}
use Rattle.std.specs.List.{list_all}
use Rattle.tks_cmd.specs.Windows.{without_all, is_other}
use Rattle.tks_cmd.proofs.windows.destroy_all.Given as goal

-- with those further on, the paths so far are all; and none of them is that of `.`
abbrev pub invariant-loop-path : goal.invariant-loop-path
invariant-loop-path l = record {
  rest : without_all l.world (drop l.path-index l.paths) ≡ without_all l.fn.world l.paths;
  others : list_all is_other (drop l.path-index l.paths) ≡ true;
}
