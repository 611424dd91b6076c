-- The state before the first statement.
use Rattle.std.proofs.Common.{◌≡◌, ℕ, [], length, refl, sym, ap, ◌∙◌, subst}
use Rattle.mh_flat.specs.declared.code.Code.{Code}
use Rattle.mh_flat.specs.declared.code.State.{State}
use Rattle.mh_flow.specs.Flow.{Block, End, Then, block_size, block_items}
use Rattle.mh_flat.specs.Stands.{fresh, first, Does, end}
use Rattle.mh_flat.specs.Flat.{Starts}
use Rattle.mh_flat.proofs.Simulates.{does_block}

first_at_end : {E P : Type 0} (b : Block E P) (n : ℕ) → n ≡ block_size b → first 0 b (fresh n) ≡ fresh 0
first_at_end End n e = ap fresh e
first_at_end (Then t b) n e = refl

pub starts : {L E P V S F : Type 0} (c : Code L E P V S F) (st : State) → st.position ≡ fresh 0 → length st.counters.items ≡ c.depth → st.count ≡ 0 → Starts c st
starts c st eg el ec =
    record {
      left = λ b code. record {
        small = code.small;
        room = sym el;
        stands = record {
          leave = end c.instructions.items c.depth;
          again = end c.instructions.items c.depth;
          depth = 0;
          does = subst (λ g. Does c.instructions.items c.depth st.counters.items (block_items 0 b []) g (end c.instructions.items c.depth) (end c.instructions.items c.depth) 0) (first_at_end b (length c.instructions.items) code.long ∙ sym eg) (does_block c.instructions.items c.depth st.counters.items b 0 [] (end c.instructions.items c.depth) (end c.instructions.items c.depth) (end c.instructions.items c.depth) 0 code.has (refl, refl, refl));
        };
      };
      room = λ b code. el ∙ code.deep;
      count = ec;
    }
