use Rattle.std.proofs.Common.{◌≡◌, drop}
use Rattle.tks_parse.specs.Ready.{is_ready}
use Rattle.tks_parse.proofs.ready.is_ready.Given as goal

-- what is further on decides
abbrev pub invariant-loop-c : goal.invariant-loop-c
invariant-loop-c l = is_ready l.place (drop l.c-index l.text) ≡ is_ready l.fn.place l.fn.text
