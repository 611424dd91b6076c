use Rattle.std.proofs.Common.{◌≡◌, true, map, drop}
use Rattle.mh_design.specs.Deltas.{pieces_of}
use Rattle.mh_design.specs.Tree.{printed_of}
use Rattle.mh_gen.specs.Running.{AllFit}
use Rattle.mh_sched.specs.Lines as lines
use Rattle.mh_sched.proofs.line.put_parts.Given as goal

abbrev pub invariant-loop-part : goal.invariant-loop-part
invariant-loop-part l = record {
  written : lines.put_parts l.out.items l.first (pieces_of l.store (map printed_of (drop l.part-index l.parts))) ≡ lines.put_parts l.fn.out.items true (pieces_of l.store (map printed_of l.parts));
  grown : lines.Grown l.fn.out.items l.out.items;
  fits : AllFit (map printed_of (drop l.part-index l.parts)) l.store;
}
