-- The tokens of a source lie in it, and numbers have the form that the parser asks.
use Rattle.std.proofs.Common.{ℕ, List, [], ◌∷◌}
use Rattle.std.specs.List.{AllByRecursion}
use Rattle.mh_pytok.specs.Readable.{LiesInside, HasNumber, Readable}
use Rattle.mh_pytok.specs.declared.token.Token.{Token}
use Rattle.mh_pyparse.specs.Cursor.{AreIn}

all_in : (src : List ℕ) (ts : List Token) → AllByRecursion (LiesInside src) ts → AllByRecursion (HasNumber src) ts → AreIn src ts
all_in src [] i n = tt
all_in src (t ∷ ts) i n = (i.0.start, i.0.end, n.0, all_in src ts i.1 n.1)

pub readable_in : (src : List ℕ) (ts : List Token) → Readable src ts → AreIn src ts
readable_in src ts h = all_in src ts h.inside h.numbers
