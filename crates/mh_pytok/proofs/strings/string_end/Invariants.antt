use Rattle.std.proofs.Common.{◌≡◌, ℕ, Bool, List, ◌+◌, ◌<◌, ◌≤◌, false, drop}
use Rattle.mh_pytok.specs.Strings.{string_end}
use Rattle.mh_pytok.proofs.strings.string_end.Given as goal

-- the bytes that are left end the string where all do
pub record Goes (quote quotes begun left n : ℕ) (escaped : Bool) (bytes : List ℕ) (i : ℕ) : Type 0 where
  pub is : string_end quote quotes left escaped n (drop i bytes) ≡ string_end quote quotes quotes false begun bytes
  pub count : n ≡ begun + i
  pub wanted : 0 < left
  pub at_most : left ≤ quotes

abbrev pub invariant-loop-b : goal.invariant-loop-b
invariant-loop-b l = Goes l.quote l.quotes l.begun l.left l.n l.escaped l.bytes l.b-index
