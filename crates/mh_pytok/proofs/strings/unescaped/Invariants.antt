use Rattle.std.proofs.Common.{◌≡◌, ◌++◌, false, drop}
use Rattle.mh_pytok.specs.Strings.{unescaped}
use Rattle.mh_pytok.proofs.strings.unescaped.Given as goal

-- what the bytes that are left stand for completes what stands there
abbrev pub invariant-loop-b : goal.invariant-loop-b
invariant-loop-b l = l.out ++ unescaped l.pending (drop l.b-index l.text) ≡ unescaped false l.text
