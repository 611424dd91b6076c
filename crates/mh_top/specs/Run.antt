-- What a run of the program finds and leaves. These words are this project's own.
use Rattle.std.specs.Prelude.{ℕ, List, ◌++◌, ◌≡◌, Option}
use Rattle.mh_host.specs.Shelf.{Seen, Counts, Rose, Told, IsFront}

-- What the shelf tells, where it tells, and how many faults it has counted, before the run and after it.
pub record Run : Type 0 where
  pub before : Option Seen
  pub after : Option Seen
  pub faults_before : Counts
  pub faults_after : Counts

-- No fetch, no store and no print failed.
pub record IsFaultFree (run : Run) : Type 0 where
  pub fetch : run.faults_after.fetch ≡ run.faults_before.fetch
  pub store : run.faults_after.store ≡ run.faults_before.store
  pub print : run.faults_after.print ≡ run.faults_before.print

-- A fetch failed, and nothing else did.
pub record HasFailedFetch (run : Run) : Type 0 where
  pub fetch : Rose run.faults_before.fetch run.faults_after.fetch
  pub store : run.faults_after.store ≡ run.faults_before.store
  pub print : run.faults_after.print ≡ run.faults_before.print

-- A store failed, and nothing else did.
pub record HasFailedStore (run : Run) : Type 0 where
  pub fetch : run.faults_after.fetch ≡ run.faults_before.fetch
  pub store : Rose run.faults_before.store run.faults_after.store
  pub print : run.faults_after.print ≡ run.faults_before.print

-- A print failed, and nothing else did.
pub record HasFailedPrint (run : Run) : Type 0 where
  pub fetch : run.faults_after.fetch ≡ run.faults_before.fetch
  pub store : run.faults_after.store ≡ run.faults_before.store
  pub print : Rose run.faults_before.print run.faults_after.print

-- Every name holds what it held.
abbrev pub SameNames : Seen → Seen → Type 0
SameNames before after = (name : List ℕ) → after.holds name ≡ before.holds name

-- The one line that went to the standard error: all of it, or its front where the count of complaints rose. Nothing was printed.
pub record Complained (line : List ℕ) (faults_before faults_after : ℕ) (before after : Seen) : Type 0 where
  pub front : (front : List ℕ) × IsFront front line × (after.complained ≡ before.complained ++ front)
  pub whole : (Rose faults_before faults_after → ⊥) → after.complained ≡ before.complained ++ line
  pub printed : after.printed ≡ before.printed

-- The run complained of this line, where the shelf tells.
abbrev pub Complains : List ℕ → Run → Type 0
Complains line run = Told (Complained line run.faults_before.complain run.faults_after.complain) run.before run.after

-- Every name holds what it held, where the shelf tells.
abbrev pub KeepsNames : Run → Type 0
KeepsNames run = Told SameNames run.before run.after

-- The run made no other call than this complaint, or calls that changed nothing and failed nowhere.
pub record OnlyComplains (line : List ℕ) (run : Run) : Type 0 where
  pub faults : IsFaultFree run
  pub names : KeepsNames run
  pub complaint : Complains line run

-- What went to an output: all of these bytes, or their front where the count of the call's faults rose.
pub record WentOut (bytes : List ℕ) (faults_before faults_after : ℕ) (before after : List ℕ) : Type 0 where
  pub front : (front : List ℕ) × IsFront front bytes × (after ≡ before ++ front)
  pub whole : (Rose faults_before faults_after → ⊥) → after ≡ before ++ bytes

-- This text went to the standard output and this line to the standard error, and every name holds what it held.
pub record Spoke (text line : List ℕ) (faults_before faults_after : Counts) (before after : Seen) : Type 0 where
  pub output : WentOut text faults_before.print faults_after.print before.printed after.printed
  pub error : WentOut line faults_before.complain faults_after.complain before.complained after.complained
  pub names : SameNames before after

-- The same, where the shelf tells.
abbrev pub Speaks : List ℕ → List ℕ → Run → Type 0
Speaks text line run = Told (Spoke text line run.faults_before run.faults_after) run.before run.after
