-- The turns of `resume`.
use Rattle.std.proofs.Common.{◌^◌, ◌≡◌, ℕ, suc, ◌+◌, ◌-◌, ◌*◌, ◌<◌, ◌≤◌, List, length, refl, sym, ◌∙◌, subst, arith, ◌⊎◌, inl, inr}
use Rattle.std.specs.Prelude.{slice_get}
use Rattle.mh_flow.specs.declared.lang.Lang.{Ghosts}
use Rattle.mh_flow.specs.declared.resumed.Resumed.{Resumed}
use Rattle.mh_flat.specs.declared.code.Code.{Code}
use Rattle.mh_flat.specs.declared.code.State.{State}
use Rattle.mh_flat.specs.declared.code.Instruction.{Instruction}
use Rattle.mh_flow.specs.Flow.{Item, Reaches, onward, here}
use Rattle.mh_flat.specs.Machine as machine
use Rattle.mh_flat.specs.Machine.{action_at, configuration_of, OnInstruction, FitsOperation, HasRoom}
use Rattle.mh_flat.specs.Fits.{FitsItems}
use Rattle.mh_flow.specs.Words.{Keeps, keeps_same, keeps_on}
use Rattle.mh_flat.specs.Stands.{Stands, StandsFor, Resumes}
use Rattle.mh_flat.proofs.Simulates.{rank, simulation, rank_room, instruction_fits, instruction_room}
use Rattle.mh_flat.proofs.Advance.{Laws, Advanced, advanced, answered}

-- what is left of the budget, and the loops that may run out
abbrev pub measure : {L E P V S F : Type 0} → List (Instruction L E P V S F) → ℕ → ℕ → State → ℕ
measure instructions depth budget st = (budget - st.count) * suc depth + rank instructions st.position

less_budget : (x y d r r' : ℕ) → x < y → r' ≤ d → x * suc d + r' < y * suc d + r
less_budget x y d r r' h k = grind arith

falls : (x y d r r' : ℕ) (k : ℕ) → k ≤ y → x ≡ y - k → r' ≤ d → (1 ≤ k) ⊎ ((k ≡ 0) × (r' < r)) → x * suc d + r' < y * suc d + r
falls x y d r r' k h e m (inl one) = less_budget x y d r r' (omega arith) m
falls x y d r r' k h e m (inr z) =
    let same : x ≡ y = omega (arith, z.0) in
    subst (λ v. v * suc d + r' < y * suc d + r) (sym same) (omega (arith, z.1))

-- A state stands for these items, which fit the store.
pub record IsLeft {L E P V S F : Type 0} (l : Ghosts L E P V S F) (c : Code L E P V S F) (xs : List (Item E P)) (st : State) (s : S) : Type 0 where
  pub small : length c.instructions.items < 2 ^ 32
  pub room : c.depth ≡ length st.counters.items
  pub stands : Stands c.instructions.items c.depth st.counters.items xs st.position
  pub fits : FitsItems l xs s

pub is_left : {L E P V S F : Type 0} (l : Ghosts L E P V S F) (c : Code L E P V S F) (xs : List (Item E P)) (st : State) (s : S) → StandsFor c xs st → FitsItems l xs s → IsLeft l c xs st s
is_left l c xs st s h f = record { small = h.small; room = h.room; stands = h.stands; fits = f }

module _ {L E P V S F : Type 0} (l : Ghosts L E P V S F) (budget : ℕ) (c : Code L E P V S F) where
  -- what was done up to a turn
  pub record SoFar (xs : List (Item E P)) (st0 : State) (s0 : S) (st : State) (s : S) : Type 0 where
    pub rest : List (Item E P)
    pub left : IsLeft l c rest st s
    pub keeps : Keeps l.fits_expr l.fits_set l.fits_count s0 s
    pub reached : Reaches l budget xs s0 st0.count rest s st.count

  pub start_at : (xs : List (Item E P)) (st : State) (s : S) → IsLeft l c xs st s → SoFar xs st s st s
  start_at xs st s h = record { rest = xs; left = h; keeps = keeps_same s; reached = here }

  pub instruction_fits_at : (xs : List (Item E P)) (st : State) (s : S) → IsLeft l c xs st s → OnInstruction (slice_get c.instructions.items st.position.at) (λ operation. FitsOperation l operation st.position.begun s)
  instruction_fits_at xs st s h =
      instruction_fits l c.instructions.items c.depth st.counters.items xs st.position h.stands.leave h.stands.again h.stands.depth s h.stands.does h.fits

  pub instruction_room_at : (xs : List (Item E P)) (st : State) (s : S) → IsLeft l c xs st s → OnInstruction (slice_get c.instructions.items st.position.at) (λ operation. HasRoom operation (length st.counters.items))
  instruction_room_at xs st s h =
      instruction_room l c.instructions.items c.depth st.counters.items xs st.position h.stands.leave h.stands.again h.stands.depth (length st.counters.items) h.room h.stands.does

module _ {L E P V S F : Type 0} (l : Ghosts L E P V S F) (laws : Laws l) (budget : ℕ) (c : Code L E P V S F) where
  went : (xs : List (Item E P)) (st st' : State) (s s' : S) → IsLeft l c xs st s → machine.GoesOn l budget (action_at l (slice_get c.instructions.items st.position.at) st.position st.counters.items s) (configuration_of st) s (configuration_of st') s' → Advanced l laws c.instructions.items c.depth budget st.counters.items xs st.position st.count s (configuration_of st') s'
  went xs st st' s s' h go =
      advanced l laws c.instructions.items c.depth budget st.counters.items xs st.position st.count s (configuration_of st') s' _ _ refl (simulation l c.instructions.items c.depth st.counters.items xs st.position h.stands.leave h.stands.again h.stands.depth s h.room h.stands.does h.fits) go

  pub next : (xs : List (Item E P)) (st0 st st' : State) (s0 s s' : S) → SoFar l budget c xs st0 s0 st s → machine.GoesOn l budget (action_at l (slice_get c.instructions.items st.position.at) st.position st.counters.items s) (configuration_of st) s (configuration_of st') s' → SoFar l budget c xs st0 s0 st' s'
  next xs st0 st st' s0 s s' h go =
      let w = went h.rest st st' s s' h.left go in
      record {
        rest = w.ys;
        left = record { small = h.left.small; room = h.left.room ∙ sym w.long; stands = w.stands; fits = w.fits };
        keeps = keeps_on h.keeps w.keeps;
        reached = subst (λ n. Reaches l budget xs s0 st0.count w.ys s' n) (sym w.counted) (onward h.reached w.moved w.within);
      }

  pub smaller : (xs : List (Item E P)) (st st' : State) (s s' : S) → IsLeft l c xs st s → machine.GoesOn l budget (action_at l (slice_get c.instructions.items st.position.at) st.position st.counters.items s) (configuration_of st) s (configuration_of st') s' → measure c.instructions.items c.depth budget st' < measure c.instructions.items c.depth budget st
  smaller xs st st' s s' h go =
      let w = went xs st st' s s' h go in
      let fewer : budget - st'.count ≡ (budget - st.count) - w.counts = omega (arith, w.counted) in
      falls (budget - st'.count) (budget - st.count) c.depth (rank c.instructions.items st.position) (rank c.instructions.items st'.position) w.counts w.within fewer (rank_room c.instructions.items c.depth st'.counters.items w.ys st'.position w.stands.leave w.stands.again w.stands.depth w.stands.does) w.falls

  pub done : (xs : List (Item E P)) (st0 st st' : State) (s0 s s' : S) (r : Resumed F) → SoFar l budget c xs st0 s0 st s → machine.Answers l budget (action_at l (slice_get c.instructions.items st.position.at) st.position st.counters.items s) r (configuration_of st) s (configuration_of st') s' → Resumes l budget c xs st0 s0 r st' s'
  done xs st0 st st' s0 s s' r h ans =
      let a = answered l laws c.instructions.items c.depth budget st.counters.items h.rest st.position st.count s r (configuration_of st') s' _ _ refl h.left.stands h.left.fits (simulation l c.instructions.items c.depth st.counters.items h.rest st.position h.left.stands.leave h.left.stands.again h.left.stands.depth s h.left.room h.left.stands.does h.left.fits) ans in
      record {
        rest = a.ys;
        left = record { small = h.left.small; room = h.left.room ∙ sym a.long; stands = a.stands };
        fits = a.fits;
        keeps = subst (λ x. Keeps l.fits_expr l.fits_set l.fits_count s0 x) (sym a.same) h.keeps;
        evaluated = record { head = h.rest; store = s; count = st.count; reached = h.reached; answered = a.answers };
      }
