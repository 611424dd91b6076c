-- What can be told of a shelf, and what each of its calls may change. These rules are this project's own.
use Rattle.std.specs.Prelude.{ℕ, ◌+◌, ◌-◌, ◌^◌, ◌≤◌, ◌≡◌, ◌≢◌, ◌⊎◌, Bool, true, false, min, List, ◌++◌, length, Option, None, Some, IfSome, Result, Ok, Err}
use Rattle.mh_host.specs.declared.shelf.Fetched.{Fetched}
use Rattle.mh_host.specs.declared.shelf.Fetched.TheVariants.{Whole, TooLong}
use Rattle.mh_host.specs.declared.shelf.ShelfError.{ShelfError}
use Rattle.mh_host.specs.declared.shelf.ShelfError.TheVariants as error

-- What a shelf tells: what each name holds, None being a name that isn't held, and all that was printed and
-- complained so far.
pub record Seen : Type 0 where
  pub holds : List ℕ → Option (List ℕ)
  pub printed : List ℕ
  pub complained : List ℕ

-- How many faults each call of a shelf has answered.
pub record Counts : Type 0 where
  pub fetch : ℕ
  pub store : ℕ
  pub print : ℕ
  pub complain : ℕ

-- No call has failed.
abbrev pub no_faults : Counts
no_faults = record { fetch = 0; store = 0; print = 0; complain = 0 }

-- A count rose, or stands at its end, where it can't rise.
abbrev pub Rose : ℕ → ℕ → Type 0
Rose before now = min (before + 1) (2 ^ 64 - 1) ≤ now

-- A call's own count: it never falls, it rose where the call failed, and it stays elsewhere.
abbrev pub Counted : Bool → ℕ → ℕ → Type 0
Counted true before now = (before ≤ now) × Rose before now
Counted false before now = now ≡ before

-- The fetch answered a fault, and not want of memory alone.
abbrev pub is_failed : {T : Type 0} → Result T ShelfError → Bool
is_failed (Ok found) = false
is_failed (Err error.Failed) = true
is_failed (Err error.Memory) = false

-- A relation between what is told before and after, where the shelf tells. Telling neither begins nor ends.
abbrev pub Told : (Seen → Seen → Type 0) → Option Seen → Option Seen → Type 0
Told Changes None None = Unit {0}
Told Changes None (Some after) = ⊥
Told Changes (Some before) None = ⊥
Told Changes (Some before) (Some after) = Changes before after

-- The first bytes of a text, maybe none, maybe all.
abbrev pub IsFront : List ℕ → List ℕ → Type 0
IsFront front bytes = (rest : List ℕ) × (bytes ≡ front ++ rest)

-- What is taken of the bytes that a name holds: all of them, at most the limit, or the first of them, one more than the limit.
abbrev pub IsPortion : Fetched → List ℕ → ℕ → List ℕ → Type 0
IsPortion Whole held limit bytes = (length bytes ≤ limit) × (held ≡ bytes)
IsPortion TooLong held limit bytes = (length bytes ≡ limit + 1) × IsFront bytes held

-- How many bytes a fetch takes, whether the shelf tells or not.
abbrev pub IsWithin : Fetched → ℕ → List ℕ → Type 0
IsWithin Whole limit bytes = length bytes ≤ limit
IsWithin TooLong limit bytes = length bytes ≡ limit + 1

-- What a fetch finds under a name.
pub record Finds (found : Fetched) (seen : Option Seen) (name : List ℕ) (limit : ℕ) (bytes : List ℕ) : Type 0 where
  pub within : IsWithin found limit bytes
  pub told : IfSome seen (λ s. (held : List ℕ) × (s.holds name ≡ Some held) × IsPortion found held limit bytes)

-- What a name holds after bytes were to be stored under it: the bytes where that was done, and elsewhere what it held
-- or a front of the bytes.
abbrev pub HeldAfter : Bool → List ℕ → Option (List ℕ) → Option (List ℕ) → Type 0
HeldAfter true bytes old new = new ≡ Some bytes
HeldAfter false bytes old new = (new ≡ old) ⊎ ((front : List ℕ) × IsFront front bytes × (new ≡ Some front))

-- What stands in an output after bytes were to be appended: all of them where that was done, elsewhere a front.
abbrev pub Appends : Bool → List ℕ → List ℕ → List ℕ → Type 0
Appends true bytes old new = new ≡ old ++ bytes
Appends false bytes old new = (front : List ℕ) × IsFront front bytes × (new ≡ old ++ front)

-- Bytes were to be stored under a name, and nothing else changed.
pub record Stores (done : Bool) (name bytes : List ℕ) (before after : Seen) : Type 0 where
  pub held : HeldAfter done bytes (before.holds name) (after.holds name)
  pub others : (other : List ℕ) → other ≢ name → after.holds other ≡ before.holds other
  pub printed : after.printed ≡ before.printed
  pub complained : after.complained ≡ before.complained

-- Bytes were to be printed, and nothing else changed.
pub record Prints (done : Bool) (bytes : List ℕ) (before after : Seen) : Type 0 where
  pub printed : Appends done bytes before.printed after.printed
  pub holds : (name : List ℕ) → after.holds name ≡ before.holds name
  pub complained : after.complained ≡ before.complained

-- Bytes were to be complained, and nothing else changed.
pub record Complains (done : Bool) (bytes : List ℕ) (before after : Seen) : Type 0 where
  pub complained : Appends done bytes before.complained after.complained
  pub holds : (name : List ℕ) → after.holds name ≡ before.holds name
  pub printed : after.printed ≡ before.printed
