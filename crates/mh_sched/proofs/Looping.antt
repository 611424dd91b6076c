-- A delta by calls and prints in a row.
use Rattle.std.proofs.Common.{◌≡◌, ℕ, ◌<◌, List, refl, sym, ◌∙◌, subst}
use Rattle.std.specs.Prelude.{Result, Ok, Err}
use Rattle.mh_design.specs.declared.design.Design.{Design}
use Rattle.mh_sched.specs.declared.answer.Delta.{Delta}
use Rattle.mh_sched.specs.declared.answer.Delta.TheVariants as delta
use Rattle.mh_sched.specs.declared.fault.SimFault.{SimFault}
use Rattle.mh_sched.specs.declared.sim.Sim.{Sim}
use Rattle.mh_sched.specs.Standing.{Standing, DeltaCall, MeansFor}
use Rattle.mh_sched.specs.At.{of_sim, IsAt, IsSomewhere, DeltaDone, SaysAt, CanSay, HasSaid, DeltaWhole}
use Rattle.mh_sched.proofs.Progress.{progress, told_less}
use Rattle.mh_sched.proofs.Until.{Going, has_told, told, going_says, printed_at, going_unsaid, whole_ran, whole_quiet, whole_stopped, whole_failed, ran_below}

abbrev pub CallsMean : Type 0
CallsMean =
    (d : Design) (limit : ℕ) (before after : Standing) (a : Result Delta SimFault) → DeltaCall d before a after → MeansFor d limit before a after

abbrev pub Does : Sim → Result Delta SimFault → Sim → Type 0
Does old a new = (st : Standing) → IsAt old st → DeltaDone (of_sim old) st a new

abbrev pub Says : Sim → ℕ → ℕ → Result (Unit {0}) SimFault → List ℕ → List ℕ → Sim → Type 0
Says old g k a before after new =
    (st : Standing) → IsAt old st → SaysAt g st → HasSaid (of_sim old) g k st a before after old new

module _ (laws : CallsMean) {d : Design} {limit : ℕ} {st : Standing} {before mid : List ℕ} {old : Sim} (w : Going d limit st before mid old) where
  pub going_somewhere : IsSomewhere old
  going_somewhere = record { standing = w.now; at = w.gone.at }

  done_by : {middle : Sim} (a : Result Delta SimFault) → Does old a middle → DeltaDone d w.now a middle
  done_by {middle} a f = subst (λ v. DeltaDone v w.now a middle) w.gone.design (f w.now w.gone.at)

  pub loop_failed : {middle : Sim} (y : SimFault) → Does old (Err y) middle → DeltaWhole d limit st (Err y) before mid middle
  loop_failed {middle} y f =
      let x = done_by (Err y) f in
      whole_failed w middle y x (laws d limit w.now x.after (Err y) x.call)

  module _ {middle : Sim} (a : Delta) (f : Does old (Ok a) middle) where
    done_as : (b : Delta) → a ≡ b → DeltaDone d w.now (Ok b) middle
    done_as b e = subst (λ v. DeltaDone d w.now (Ok v) middle) e (done_by (Ok a) f)

    pub loop_ran : a ≡ delta.Ran → DeltaWhole d limit st (Ok delta.Ran) before mid middle
    loop_ran e =
        let x = done_as delta.Ran e in
        whole_ran w middle x (laws d limit w.now x.after (Ok delta.Ran) x.call) (ran_below old x w.gone.at)

    pub loop_quiet : a ≡ delta.Quiet → DeltaWhole d limit st (Ok delta.Quiet) before mid middle
    loop_quiet e = whole_quiet w middle (done_as delta.Quiet e)

    pub loop_stopped : a ≡ delta.Stopped → DeltaWhole d limit st (Ok delta.Stopped) before mid middle
    loop_stopped e =
        let x = done_as delta.Stopped e in
        whole_stopped w middle x (laws d limit w.now x.after (Ok delta.Stopped) x.call)

    module _ (g k : ℕ) (e : a ≡ delta.Says g k) where
      done_says : DeltaDone d w.now (Ok (delta.Says g k)) middle
      done_says = done_as (delta.Says g k) e

      means : MeansFor d limit w.now (Ok (delta.Says g k)) done_says.after
      means = laws d limit w.now done_says.after (Ok (delta.Says g k)) done_says.call

      says_there : SaysAt g done_says.after
      says_there = subst (λ v. SaysAt g v) (sym (has_told g k done_says.call refl).is) refl

      pub can_say : CanSay middle g
      can_say = record { standing = done_says.after; at = done_says.at; says = says_there }

      said_by : (more : List ℕ) (new : Sim) (r : Result (Unit {0}) SimFault) → Says middle g k r mid more new → HasSaid d g k done_says.after r mid more middle new
      said_by more new r y =
          subst (λ v. HasSaid v g k done_says.after r mid more middle new) done_says.design (y done_says.after done_says.at says_there)

      pub loop_says : (more : List ℕ) (new : Sim) (u : Unit {0}) → Says middle g k (Ok u) mid more new → Going d limit st before more new
      loop_says more new u y = going_says w done_says means u (said_by more new (Ok u) y)

      pub loop_less : (more : List ℕ) (new : Sim) (u : Unit {0}) → Says middle g k (Ok u) mid more new → progress new < progress old
      loop_less more new u y =
          let p = said_by more new (Ok u) y in
          told_less old new w.now done_says.after g w.gone.at (told w done_says means) (printed_at w done_says means u p) (p.design ∙ sym w.gone.design)

      pub loop_unsaid : (more : List ℕ) (new : Sim) (y : SimFault) → Says middle g k (Err y) mid more new → DeltaWhole d limit st (Err y) before more new
      loop_unsaid more new y z = going_unsaid w done_says means more new y (said_by more new (Err y) z)
