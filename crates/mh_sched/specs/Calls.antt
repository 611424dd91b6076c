-- A delta by calls: this project's own rule. A call evaluates the woken generators in order, up to the next print or to the end of the
-- delta. After a print the same delta is gone on with, where the evaluation that prints has been left.
use Rattle.std.specs.Prelude.{ℕ, ◌≡◌, ◌+◌, true, false, List, [], ◌∷◌, ◌++◌, Some, Result, Ok, Err}
use Rattle.mh_flow.specs.declared.resumed.Resumed.{Resumed}
use Rattle.mh_flow.specs.declared.resumed.Resumed.TheVariants as resumed
use Rattle.mh_design.specs.declared.design.Design.{Design}
use Rattle.mh_design.specs.declared.design.Generator.{Generator}
use Rattle.mh_design.specs.Bodies.{prints_at, line_at}
use Rattle.mh_design.specs.Values.{Signals, Store, Fault}
use Rattle.mh_design.specs.Deltas.{Left, Process, Flows, Ending, InFault, Faults, ending_of, goes_on, waits_after, waiting, is_woken, store_of, pieces_of, Evaluation, Evaluations, Outcome, BrokenOff}
use Rattle.mh_sched.specs.Lines.{Line}

-- What a call answers: all evaluations are done; the statement with this number of this generator prints, with the number of statements
-- that its evaluation has executed, and the line, or the fault of its parts; or an evaluation has broken the delta off.
pub data Reply : Type 0 where
  Finished : Reply
  Prints : (generator number count : ℕ) → Result Line Ending → Reply
  Breaks : (generator : ℕ) → Ending → Reply

-- What a print prints, or how it ends the evaluation.
abbrev pub line_or : ℕ → Result Line Fault → Result Line Ending
line_or line (Ok ps) = Ok ps
line_or line (Err f) = Err (InFault line (Faults f))

abbrev pub printed : Generator → ℕ → Store → Result Line Ending
printed g j u = line_or (line_at g j) (pieces_of u (prints_at g j))

-- A process after its evaluation, which waits from now on, and one that prints, which waits since before.
abbrev pub evaluated : ℕ → Left → Store → Process
evaluated time left u = record { left = left; locals = u.locals; since = time }

abbrev pub interrupted : Process → Left → Store → Process
interrupted p left u = record { left = left; locals = u.locals; since = p.since }

module _ (d : Design) (time : ℕ) where
  mutual
    -- The generators from number k on are gone through: one that isn't woken stays as it is.
    pub data Passes : ℕ → List Generator → List Process → Signals → Reply → List Process → Signals → Type 0 where
      all : {k : ℕ} {s : Signals} → Passes k [] [] s Finished [] s
      rests : {k : ℕ} {g : Generator} {gs : List Generator} {p : Process} {ps qs : List Process} {s t : Signals} {r : Reply} → is_woken s time p k ≡ false →
          Passes (k + 1) gs ps s r qs t → Passes k (g ∷ gs) (p ∷ ps) s r (p ∷ qs) t
      begins : {k : ℕ} {g : Generator} {gs : List Generator} {p : Process} {ps qs : List Process} {s t : Signals} {r : Reply} → is_woken s time p k ≡ true →
          Resumes 0 k (g ∷ gs) (p ∷ ps) s r qs t → Passes k (g ∷ gs) (p ∷ ps) s r qs t

    -- The evaluation of the generator with number k goes on, after so many statements.
    pub data Resumes : ℕ → ℕ → List Generator → List Process → Signals → Reply → List Process → Signals → Type 0 where
      prints : {n k m j : ℕ} {g : Generator} {gs : List Generator} {p : Process} {ps : List Process} {s : Signals} {left : Left} {u : Store} →
          Flows p.left (store_of d time s p) n (resumed.Says j) left u m →
          Resumes n k (g ∷ gs) (p ∷ ps) s (Prints k j m (printed g j u)) (interrupted p left u ∷ ps) u.signals
      ends : {n k m : ℕ} {g : Generator} {gs : List Generator} {p : Process} {ps qs : List Process} {s t : Signals} {left : Left} {u : Store} {a : Resumed Fault} {e : Ending} {r : Reply} → Flows p.left (store_of d time s p) n a left u m → ending_of d g left a ≡ Some e → goes_on e ≡ true → Passes (k + 1) gs ps (waiting u.signals k (waits_after d g e)) r qs t → Resumes n k (g ∷ gs) (p ∷ ps) s r (evaluated time left u ∷ qs) t
      breaks : {n k m : ℕ} {g : Generator} {gs : List Generator} {p : Process} {ps : List Process} {s : Signals} {left : Left} {u : Store} {a : Resumed Fault} {e : Ending} → Flows p.left (store_of d time s p) n a left u m → ending_of d g left a ≡ Some e → goes_on e ≡ false → Resumes n k (g ∷ gs) (p ∷ ps) s (Breaks k e) (p ∷ ps) s

  -- The generators before number i have been gone through; that with number i goes on.
  pub data GoesOn (i n : ℕ) : ℕ → List Generator → List Process → Signals → Reply → List Process → Signals → Type 0 where
    here : {gs : List Generator} {ps qs : List Process} {s t : Signals} {r : Reply} → Resumes n i gs ps s r qs t → GoesOn i n i gs ps s r qs t
    skip : {k : ℕ} {g : Generator} {gs : List Generator} {p : Process} {ps qs : List Process} {s t : Signals} {r : Reply} → GoesOn i n (k + 1) gs ps s r qs t →
        GoesOn i n k (g ∷ gs) (p ∷ ps) s r (p ∷ qs) t

  -- What is left of a delta whose generator with number k has executed so many statements of its evaluation: the outcome, the lines that
  -- are still printed, and the processes and the signals after.
  pub data Remains (n : ℕ) : ℕ → List Generator → List Process → Signals → Outcome → List Line → List Process → Signals → Type 0 where
    remains : {k m : ℕ} {g : Generator} {gs : List Generator} {p : Process} {ps qs : List Process} {s t : Signals} {left : Left} {u : Store} {e : Ending} {o : Outcome} {own lines : List Line} → Evaluation d g p.left (store_of d time s p) n e own left u m → goes_on e ≡ true → Evaluations d time (k + 1) gs ps (waiting u.signals k (waits_after d g e)) o lines qs t → Remains n k (g ∷ gs) (p ∷ ps) s o (own ++ lines) (evaluated time left u ∷ qs) t
    breaks_off : {k m : ℕ} {g : Generator} {gs : List Generator} {p : Process} {ps : List Process} {s : Signals} {left : Left} {u : Store} {e : Ending} {own : List Line} → Evaluation d g p.left (store_of d time s p) n e own left u m → goes_on e ≡ false → Remains n k (g ∷ gs) (p ∷ ps) s (BrokenOff k e) own (p ∷ ps) s

  pub data Rest (i n : ℕ) : ℕ → List Generator → List Process → Signals → Outcome → List Line → List Process → Signals → Type 0 where
    here : {gs : List Generator} {ps qs : List Process} {s t : Signals} {o : Outcome} {lines : List Line} → Remains n i gs ps s o lines qs t → Rest i n i gs ps s o lines qs t
    skip : {k : ℕ} {g : Generator} {gs : List Generator} {p : Process} {ps qs : List Process} {s t : Signals} {o : Outcome} {lines : List Line} →
        Rest i n (k + 1) gs ps s o lines qs t → Rest i n k (g ∷ gs) (p ∷ ps) s o lines (p ∷ qs) t

-- A delta that is broken off by the evaluation of this generator.
pub record Broken (d : Design) (time k : ℕ) (gs : List Generator) (ps : List Process) (s : Signals) (i : ℕ) (e : Ending) (lines : List Line) : Type 0 where
  pub processes : List Process
  pub signals : Signals
  pub evaluations : Evaluations d time k gs ps s (BrokenOff i e) lines processes signals

-- What is left of a delta is broken off.
pub record RestBroken (d : Design) (time i n k : ℕ) (gs : List Generator) (ps : List Process) (s : Signals) (h : ℕ) (e : Ending) (lines : List Line) : Type 0 where
  pub processes : List Process
  pub signals : Signals
  pub rest : Rest d time i n k gs ps s (BrokenOff h e) lines processes signals

pub record RemainsBroken (d : Design) (time n k : ℕ) (gs : List Generator) (ps : List Process) (s : Signals) (h : ℕ) (e : Ending) (lines : List Line) : Type 0 where
  pub processes : List Process
  pub signals : Signals
  pub remains : Remains d time n k gs ps s (BrokenOff h e) lines processes signals
