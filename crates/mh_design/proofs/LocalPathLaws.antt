-- The walk for a local and the walk through paths find the same.
use Rattle.std.proofs.Common.{◌≡◌, ◌↔◌, ℕ, zero, suc, ℤ, Bool, true, false, not, ◌&&◌, ◌||◌, ◌==◌, List, [], ◌∷◌, ◌++◌, map, Option, Some, None, refl, sym, ap, ◌∙◌, subst, if◌then◌else◌}
use Rattle.std.specs.Prelude.{int_lt}
use Rattle.std.specs.List.{list_any, flat_map}
use Rattle.mh_paths.specs.Paths.{Does, Chooses, Counts, Loops, Breaks, Continues, Stops, Exit, Onward, Broken, Continued, Stopped, MayReadFirst}
use Rattle.mh_paths.specs.Paths.{Statement as Way, Block as Ways, End as NoWay, Then as First}
use Rattle.mh_paths.specs.Walk.{Walk, nothing, in_row, row_exit, either, in_loop, once, once_exit, goes_on, event_walk, events_walk, alike, turns_walk}
use Rattle.mh_paths.specs.Walk as through
use Rattle.mh_paths.proofs.Walked.{alike_reads, alike_missed, reads_law}
use Rattle.mh_design.specs.declared.assigned.Flow.{Flow}
use Rattle.mh_design.specs.Assigned.{both, joined, passes, followed, next, after_reading, reads_local, changes, binds, rises, has_turn, ends_give_turn, turn_begins, while_flow, for_flow, looped, walk, walk_block, walk_arm, walk_arms}
use Rattle.mh_design.specs.Constants.{constant_of}
use Rattle.mh_design.specs.LocalPaths.{Event, Values, Changes, Makes, reads, makes, base_events, left_events, all_of, followed_by, turn_count, turns_between, loop_of, alone, ways, block_ways, arms_ways}
use Rattle.mh_design.specs.Numbering.{left_indices, printed_numbers}
use Rattle.mh_design.specs.Tree.{Expression, LeftBase, LeftSignal, LeftElement, LeftLocal, LeftSide, Whole, LeftBit, LeftSlice, Bind, Printed, Statement, Set, If, While, For, Break, Continue, Yield, Print, Assert, Stop, Block, End, Then, Arm, ArmOf, Arms, NoArm, MoreArms}

-- ---- truth values

or_false : (a : Bool) → (a || false) ≡ a
or_false true = refl
or_false false = refl

and_true : (a : Bool) → (a && true) ≡ a
and_true true = refl
and_true false = refl

or_comm : (a b : Bool) → (a || b) ≡ (b || a)
or_comm true true = refl
or_comm true false = refl
or_comm false true = refl
or_comm false false = refl

or_assoc : (a b c : Bool) → (a || (b || c)) ≡ ((a || b) || c)
or_assoc true b c = refl
or_assoc false b c = refl

-- three after one another
row_assoc : (r m s n t : Bool) → (r || (m && (s || (n && t)))) ≡ ((r || (m && s)) || ((m && n) && t))
row_assoc true m s n t = refl
row_assoc false true true n t = refl
row_assoc false true false n t = refl
row_assoc false false s n t = refl

and_assoc : (a b c : Bool) → (a && (b && c)) ≡ ((a && b) && c)
and_assoc true b c = refl
and_assoc false b c = refl

not_or : (a b : Bool) → (not a && not b) ≡ not (a || b)
not_or true b = refl
not_or false b = refl

-- ---- a flow and a walk that find the same

-- Some path that leads there has not assigned the local.
abbrev unassigned : Option Bool → Bool
unassigned None = false
unassigned (Some a) = not a

unassigned_both : (x y : Option Bool) → unassigned (both x y) ≡ (unassigned x || unassigned y)
unassigned_both None y = refl
unassigned_both (Some a) None = sym (or_false (not a))
unassigned_both (Some true) (Some b) = refl
unassigned_both (Some false) (Some b) = refl

pub record Agrees (p : Flow) (w : Walk) : Type 0 where
  pub sound : p.sound ≡ not w.reads
  pub falls : unassigned p.falls ≡ w.missed Onward
  pub breaks : unassigned p.breaks ≡ w.missed Broken
  pub continues : unassigned p.continues ≡ w.missed Continued

record Same (p q : Walk) : Type 0 where
  pub reads : p.reads ≡ q.reads
  pub missed : (exit : Exit) → p.missed exit ≡ q.missed exit

-- as seen by a flow
agrees_same : (p : Flow) (w x : Walk) → Agrees p w → Same w x → Agrees p x
agrees_same p w x f s = record { sound = f.sound ∙ ap not s.reads; falls = f.falls ∙ s.missed Onward; breaks = f.breaks ∙ s.missed Broken; continues = f.continues ∙ s.missed Continued }

same_self : (w : Walk) → Same w w
same_self w = record { reads = refl; missed = λ exit. refl }

same_back : (w x : Walk) → Same w x → Same x w
same_back w x s = record { reads = sym s.reads; missed = λ exit. sym (s.missed exit) }

same_then : (w x y : Walk) → Same w x → Same x y → Same w y
same_then w x y s t = record { reads = s.reads ∙ t.reads; missed = λ exit. s.missed exit ∙ t.missed exit }

-- where the local is assigned before, nothing is found
abbrev silent : Walk
silent = record { reads = false; missed = λ exit. false }

abbrev given : Bool → Walk → Walk
given true w = silent
given false w = w

-- ---- rows

same_row : (a b c d : Walk) → Same a b → Same c d → Same (in_row a c) (in_row b d)
same_row a b c d s t = record {
  reads = ap (λ r. r || (a.missed Onward && c.reads)) s.reads ∙ ap (λ m. b.reads || (m && c.reads)) (s.missed Onward) ∙ ap (λ r. b.reads || (b.missed Onward && r)) t.reads;
  missed = same_row_exit a b c d s t;
}
  where
    same_row_exit : (a b c d : Walk) → Same a b → Same c d → (exit : Exit) → row_exit a c exit ≡ row_exit b d exit
    same_row_exit a b c d s t Onward = ap (λ m. m && c.missed Onward) (s.missed Onward) ∙ ap (λ m. b.missed Onward && m) (t.missed Onward)
    same_row_exit a b c d s t Broken = ap (λ m. m || (a.missed Onward && c.missed Broken)) (s.missed Broken) ∙ ap (λ m. b.missed Broken || (m && c.missed Broken)) (s.missed Onward) ∙ ap (λ m. b.missed Broken || (b.missed Onward && m)) (t.missed Broken)
    same_row_exit a b c d s t Continued = ap (λ m. m || (a.missed Onward && c.missed Continued)) (s.missed Continued) ∙ ap (λ m. b.missed Continued || (m && c.missed Continued)) (s.missed Onward) ∙ ap (λ m. b.missed Continued || (b.missed Onward && m)) (t.missed Continued)
    same_row_exit a b c d s t Stopped = ap (λ m. m || (a.missed Onward && c.missed Stopped)) (s.missed Stopped) ∙ ap (λ m. b.missed Stopped || (m && c.missed Stopped)) (s.missed Onward) ∙ ap (λ m. b.missed Stopped || (b.missed Onward && m)) (t.missed Stopped)

rows_assoc : (a b c : Walk) → Same (in_row a (in_row b c)) (in_row (in_row a b) c)
rows_assoc a b c = record { reads = row_assoc a.reads (a.missed Onward) b.reads (b.missed Onward) c.reads; missed = by_exit a b c }
  where
    by_exit : (a b c : Walk) (exit : Exit) → row_exit a (in_row b c) exit ≡ row_exit (in_row a b) c exit
    by_exit a b c Onward = and_assoc (a.missed Onward) (b.missed Onward) (c.missed Onward)
    by_exit a b c Broken = row_assoc (a.missed Broken) (a.missed Onward) (b.missed Broken) (b.missed Onward) (c.missed Broken)
    by_exit a b c Continued = row_assoc (a.missed Continued) (a.missed Onward) (b.missed Continued) (b.missed Onward) (c.missed Continued)
    by_exit a b c Stopped = row_assoc (a.missed Stopped) (a.missed Onward) (b.missed Stopped) (b.missed Onward) (c.missed Stopped)

-- nothing after, and nothing before
last_one : (r m : Bool) → (r || (m && false)) ≡ r
last_one true m = refl
last_one false true = refl
last_one false false = refl

row_alone : (a : Walk) → Same (in_row a (nothing Onward)) a
row_alone a = record { reads = last_one a.reads (a.missed Onward); missed = by_exit a }
  where
    by_exit : (a : Walk) (exit : Exit) → row_exit a (nothing Onward) exit ≡ a.missed exit
    by_exit a Onward = and_true (a.missed Onward)
    by_exit a Broken = last_one (a.missed Broken) (a.missed Onward)
    by_exit a Continued = last_one (a.missed Continued) (a.missed Onward)
    by_exit a Stopped = last_one (a.missed Stopped) (a.missed Onward)

row_first : (a : Walk) → Same (in_row (nothing Onward) a) a
row_first a = record { reads = refl; missed = by_exit a }
  where
    by_exit : (a : Walk) (exit : Exit) → row_exit (nothing Onward) a exit ≡ a.missed exit
    by_exit a Onward = refl
    by_exit a Broken = refl
    by_exit a Continued = refl
    by_exit a Stopped = refl

silent_row : (a : Walk) → Same (in_row silent a) silent
silent_row a = record { reads = refl; missed = by_exit a }
  where
    by_exit : (a : Walk) (exit : Exit) → row_exit silent a exit ≡ false
    by_exit a Onward = refl
    by_exit a Broken = refl
    by_exit a Continued = refl
    by_exit a Stopped = refl

-- whether there is a turn
abbrev turn_seen : Option ℕ → Option Bool
turn_seen None = None
turn_seen (Some zero) = Some false
turn_seen (Some (suc n)) = Some true

module _ (v : ℕ) where
  -- the walk for the local v through paths
  abbrev through_block : Ways Event → Walk
  through_block = through.block_walk (reads v) (makes v)

  abbrev through_one : Way Event → Walk
  through_one = through.walk (reads v) (makes v)

  through_row : (a b : Ways Event) → Same (through_block (followed_by a b)) (in_row (through_block a) (through_block b))
  through_row NoWay b = same_back _ _ (row_first (through_block b))
  through_row (First w a) b = same_then _ _ _ (same_row (through_one w) (through_one w) _ _ (same_self _) (through_row a b)) (rows_assoc (through_one w) (through_block a) (through_block b))

  -- events of expressions that have their values, and then others
  values_reads : (es : List Expression) (rest : List Event) → (through_block (all_of (map Values es ++ rest))).reads ≡ (list_any (reads_local v) es || (through_block (all_of rest)).reads)
  values_reads [] rest = refl
  values_reads (e ∷ es) rest = ap (λ r. reads_local v e || r) (values_reads es rest) ∙ or_assoc (reads_local v e) (list_any (reads_local v) es) (through_block (all_of rest)).reads

  values_missed : (es : List Expression) (rest : List Event) (exit : Exit) → (through_block (all_of (map Values es ++ rest))).missed exit ≡ (through_block (all_of rest)).missed exit
  values_missed [] rest exit = refl
  values_missed (e ∷ es) rest Onward = values_missed es rest Onward
  values_missed (e ∷ es) rest Broken = values_missed es rest Broken
  values_missed (e ∷ es) rest Continued = values_missed es rest Continued
  values_missed (e ∷ es) rest Stopped = values_missed es rest Stopped

  -- what an assignment does to its target
  base_reads : (b : LeftBase) → (through_block (all_of (base_events b))).reads ≡ changes v (Whole b)
  base_reads (LeftSignal s) = refl
  base_reads (LeftElement m i) = refl
  base_reads (LeftLocal u) = or_false (u == v)

  base_missed : (b : LeftBase) (exit : Exit) → (through_block (all_of (base_events b))).missed exit ≡ (nothing Onward).missed exit
  base_missed (LeftSignal s) exit = refl
  base_missed (LeftElement m i) exit = refl
  base_missed (LeftLocal u) Onward = refl
  base_missed (LeftLocal u) Broken = refl
  base_missed (LeftLocal u) Continued = refl
  base_missed (LeftLocal u) Stopped = refl

  -- ---- a flow that goes on

  next_agrees : (p : Flow) (w : Walk) (q : Bool → Flow) (x : Walk) → Agrees p w → ((a : Bool) → Agrees (q a) (given a x)) → Agrees (next p p.falls q) (in_row w x)
  next_agrees p w q x f g = by_falls p.falls refl
    where
      by_falls : (o : Option Bool) → p.falls ≡ o → Agrees (next p o q) (in_row w x)
      by_falls None e = record {
        sound = f.sound ∙ ap not (sym (missed_not e w.reads x.reads));
        falls = ap unassigned e ∙ sym (none_on (x.missed Onward) (closed e));
        breaks = f.breaks ∙ sym (missed_not e (w.missed Broken) (x.missed Broken));
        continues = f.continues ∙ sym (missed_not e (w.missed Continued) (x.missed Continued));
      }
        where
          closed : p.falls ≡ None → w.missed Onward ≡ false
          closed e = sym f.falls ∙ ap unassigned e

          none_on : (m : Bool) → w.missed Onward ≡ false → (w.missed Onward && m) ≡ false
          none_on m e = ap (λ k. k && m) e

          missed_not : p.falls ≡ None → (r m : Bool) → (r || (w.missed Onward && m)) ≡ r
          missed_not e r m = ap (λ k. r || (k && m)) (closed e) ∙ or_false r
      by_falls (Some a) e = by_value a (sym f.falls ∙ ap unassigned e) (g a)
        where
          by_value : (a : Bool) → w.missed Onward ≡ not a → Agrees (q a) (given a x) → Agrees (followed p (q a)) (in_row w x)
          by_value true m h = record {
            sound = ap (λ s. s && (q true).sound) f.sound ∙ ap (λ s. not w.reads && s) h.sound ∙ and_true (not w.reads) ∙ ap not (sym (gone w.reads x.reads));
            falls = h.falls ∙ sym (ap (λ k. k && x.missed Onward) m);
            breaks = unassigned_both p.breaks (q true).breaks ∙ ap (λ k. k || unassigned (q true).breaks) f.breaks ∙ ap (λ k. w.missed Broken || k) h.breaks ∙ or_false (w.missed Broken) ∙ sym (gone (w.missed Broken) (x.missed Broken));
            continues = unassigned_both p.continues (q true).continues ∙ ap (λ k. k || unassigned (q true).continues) f.continues ∙ ap (λ k. w.missed Continued || k) h.continues ∙ or_false (w.missed Continued) ∙ sym (gone (w.missed Continued) (x.missed Continued));
          }
            where
              gone : (r k : Bool) → (r || (w.missed Onward && k)) ≡ r
              gone r k = ap (λ z. r || (z && k)) m ∙ or_false r
          by_value false m h = record {
            sound = ap (λ s. s && (q false).sound) f.sound ∙ ap (λ s. not w.reads && s) h.sound ∙ not_or w.reads x.reads ∙ ap not (sym (here w.reads x.reads));
            falls = h.falls ∙ sym (ap (λ k. k && x.missed Onward) m);
            breaks = unassigned_both p.breaks (q false).breaks ∙ ap (λ k. k || unassigned (q false).breaks) f.breaks ∙ ap (λ k. w.missed Broken || k) h.breaks ∙ sym (here (w.missed Broken) (x.missed Broken));
            continues = unassigned_both p.continues (q false).continues ∙ ap (λ k. k || unassigned (q false).continues) f.continues ∙ ap (λ k. w.missed Continued || k) h.continues ∙ sym (here (w.missed Continued) (x.missed Continued));
          }
            where
              here : (r k : Bool) → (r || (w.missed Onward && k)) ≡ (r || k)
              here r k = ap (λ z. r || (z && k)) m

  -- the events before a statement's paths, as a flow sees them
  passes_agrees : (sound a : Bool) (w : Walk) → sound ≡ not w.reads → not a ≡ w.missed Onward → false ≡ w.missed Broken → false ≡ w.missed Continued → Agrees (passes sound a) w
  passes_agrees sound a w e f g h = record { sound = e; falls = f; breaks = g; continues = h }

  silent_agrees : Agrees (passes true true) silent
  silent_agrees = record { sound = refl; falls = refl; breaks = refl; continues = refl }

  -- where the local is assigned, or isn't, as a body begins
  entered : (a : Bool) → Agrees (passes true a) (given a (nothing Onward))
  entered true = silent_agrees
  entered false = record { sound = refl; falls = refl; breaks = refl; continues = refl }

  given_row : (a : Bool) (w : Walk) → Same (in_row (given a (nothing Onward)) w) (given a w)
  given_row true w = silent_row w
  given_row false w = row_first w

  from_start : (a : Bool) (p : Flow) (w : Walk) → Agrees p (in_row (given a (nothing Onward)) w) → Agrees p (given a w)
  from_start a p w f = agrees_same p _ _ f (given_row a w)

  sound_silent : (p : Flow) → Agrees p silent → p.sound ≡ true
  sound_silent p f = f.sound

  -- ---- assignments

  left_reads : (t : LeftSide) → (through_block (all_of (left_events t))).reads ≡ changes v t
  left_reads (Whole b) = base_reads b
  left_reads (LeftBit b i) = left_of b
    where
      left_of : (b : LeftBase) → (through_block (all_of (base_events b))).reads ≡ changes v (Whole b)
      left_of b = base_reads b
  left_reads (LeftSlice b i j) = base_reads b
  left_reads (Bind u k) = last_one false (not (u == v))

  left_onward : (t : LeftSide) → (through_block (all_of (left_events t))).missed Onward ≡ not (binds v t)
  left_onward (Whole b) = base_missed b Onward
  left_onward (LeftBit b i) = base_missed b Onward
  left_onward (LeftSlice b i j) = base_missed b Onward
  left_onward (Bind u k) = and_true (not (u == v))

  left_broken : (t : LeftSide) → (through_block (all_of (left_events t))).missed Broken ≡ false
  left_broken (Whole b) = base_missed b Broken
  left_broken (LeftBit b i) = base_missed b Broken
  left_broken (LeftSlice b i j) = base_missed b Broken
  left_broken (Bind u k) = last_one false (not (u == v))

  left_continued : (t : LeftSide) → (through_block (all_of (left_events t))).missed Continued ≡ false
  left_continued (Whole b) = base_missed b Continued
  left_continued (LeftBit b i) = base_missed b Continued
  left_continued (LeftSlice b i j) = base_missed b Continued
  left_continued (Bind u k) = last_one false (not (u == v))

  set_agrees : (l : ℕ) (t : LeftSide) (e : Expression) (a : Bool) → Agrees (walk v (Set l t e) a) (given a (through_block (ways (Set l t e))))
  set_agrees l t e true = silent_agrees
  set_agrees l t e false =
      let indices : List Expression = left_indices t in
      let r : Bool = list_any (reads_local v) indices in
      record {
        sound = ap not (or_comm (changes v t || r) (reads_local v e) ∙ ap (λ k. reads_local v e || k) (or_comm (changes v t) r ∙ sym (values_reads indices (left_events t) ∙ ap (λ k. r || k) (left_reads t))));
        falls = sym (values_missed indices (left_events t) Onward ∙ left_onward t);
        breaks = sym (values_missed indices (left_events t) Broken ∙ left_broken t);
        continues = sym (values_missed indices (left_events t) Continued ∙ left_continued t);
      }

  -- ---- expressions alone

  values_alone : (es : List Expression) → (through_block (all_of (map Values es))).reads ≡ list_any (reads_local v) es
  values_alone [] = refl
  values_alone (e ∷ es) = ap (λ r. reads_local v e || r) (values_alone es)

  values_exits : (es : List Expression) (exit : Exit) → (through_block (all_of (map Values es))).missed exit ≡ (nothing Onward).missed exit
  values_exits [] exit = refl
  values_exits (e ∷ es) Onward = values_exits es Onward
  values_exits (e ∷ es) Broken = values_exits es Broken
  values_exits (e ∷ es) Continued = values_exits es Continued
  values_exits (e ∷ es) Stopped = values_exits es Stopped

  print_agrees : (l : ℕ) (parts : List Printed) (a : Bool) → Agrees (walk v (Print l parts) a) (given a (through_block (ways (Print l parts))))
  print_agrees l parts true = silent_agrees
  print_agrees l parts false =
      let es : List Expression = flat_map printed_numbers parts in
      record { sound = ap not (sym (values_alone es)); falls = sym (values_exits es Onward); breaks = sym (values_exits es Broken); continues = sym (values_exits es Continued) }

  assert_agrees : (l : ℕ) (e : Expression) (a : Bool) → Agrees (walk v (Assert l e) a) (given a (through_block (ways (Assert l e))))
  assert_agrees l e true = silent_agrees
  assert_agrees l e false = record { sound = ap not (sym (or_false (reads_local v e))); falls = refl; breaks = refl; continues = refl }

  -- ---- branches

  -- a branch before the others: its condition, and then its body or what else there is
  abbrev branch : Expression → Ways Event → Ways Event → Ways Event
  branch e body other = First (Does (Values e)) (alone (Chooses body other))

  abbrev branch_walk : Expression → Walk → Walk → Walk
  branch_walk e body other = record { reads = reads_local v e || (body.reads || other.reads); missed = λ exit. body.missed exit || other.missed exit }

  branch_is : (e : Expression) (b o : Ways Event) → Same (through_block (branch e b o)) (branch_walk e (through_block b) (through_block o))
  branch_is e b o = record {
    reads = ap (λ r. reads_local v e || r) (last_one ((through_block b).reads || (through_block o).reads) ((through_block b).missed Onward || (through_block o).missed Onward));
    missed = by_exit;
  }
    where
      by_exit : (exit : Exit) → (through_block (branch e b o)).missed exit ≡ ((through_block b).missed exit || (through_block o).missed exit)
      by_exit Onward = and_true ((through_block b).missed Onward || (through_block o).missed Onward)
      by_exit Broken = last_one ((through_block b).missed Broken || (through_block o).missed Broken) ((through_block b).missed Onward || (through_block o).missed Onward)
      by_exit Continued = last_one ((through_block b).missed Continued || (through_block o).missed Continued) ((through_block b).missed Onward || (through_block o).missed Onward)
      by_exit Stopped = last_one ((through_block b).missed Stopped || (through_block o).missed Stopped) ((through_block b).missed Onward || (through_block o).missed Onward)

  swap_or : (a b c : Bool) → (a || (b || c)) ≡ (b || (a || c))
  swap_or true true c = refl
  swap_or true false c = refl
  swap_or false b c = refl

  swap_four : (a b c d e : Bool) → (a || (b || (c || (d || e)))) ≡ (c || (d || (a || (b || e))))
  swap_four true b true d e = refl
  swap_four true b false true e = refl
  swap_four true b false false e = refl
  swap_four false true true d e = refl
  swap_four false true false true e = refl
  swap_four false true false false e = refl
  swap_four false false c d e = refl

  same_branch : (e : Expression) (b x y : Walk) → Same x y → Same (branch_walk e b x) (branch_walk e b y)
  same_branch e b x y s = record { reads = ap (λ r. reads_local v e || (b.reads || r)) s.reads; missed = λ exit. ap (λ m. b.missed exit || m) (s.missed exit) }

  -- a branch may stand behind the others as well as before them, as far as the walk goes
  branch_later : (arms : Arms) (e : Expression) (b o : Ways Event) → Same (through_block (arms_ways arms (branch e b o))) (branch_walk e (through_block b) (through_block (arms_ways arms o)))
  branch_later NoArm e b o = branch_is e b o
  branch_later (MoreArms (ArmOf f c) arms) e b o =
      same_then _ _ _ (branch_is f (block_ways c) (arms_ways arms (branch e b o)))
      (same_then _ _ _ (same_branch f (through_block (block_ways c)) _ _ (branch_later arms e b o))
      (same_then _ _ _ (swapped (through_block (block_ways c)) (through_block b) (through_block (arms_ways arms o)))
      (same_branch e (through_block b) _ _ (same_back _ _ (branch_is f (block_ways c) (arms_ways arms o))))))
    where
      swapped : (c b o : Walk) → Same (branch_walk f c (branch_walk e b o)) (branch_walk e b (branch_walk f c o))
      swapped c b o = record { reads = swap_four (reads_local v f) c.reads (reads_local v e) b.reads o.reads; missed = λ exit. swap_or (c.missed exit) (b.missed exit) (o.missed exit) }

  join_sound : (p r q : Bool) → (not p && (not r && not q)) ≡ not (r || (q || p))
  join_sound true true q = refl
  join_sound true false true = refl
  join_sound true false false = refl
  join_sound false true q = refl
  join_sound false false true = refl
  join_sound false false false = refl

  -- beside what leads there otherwise
  arm_joined : (e : Expression) (b o : Ways Event) (a : Bool) (p q : Flow) → Agrees p (given a (through_block o)) → Agrees q (given a (through_block b)) →
      Agrees (joined p (after_reading (a || not (reads_local v e)) q)) (given a (through_block (branch e b o)))
  arm_joined e b o true p q f g = record {
    sound = ap (λ s. s && q.sound) f.sound ∙ g.sound;
    falls = unassigned_both p.falls q.falls ∙ ap (λ k. k || unassigned q.falls) f.falls ∙ g.falls;
    breaks = unassigned_both p.breaks q.breaks ∙ ap (λ k. k || unassigned q.breaks) f.breaks ∙ g.breaks;
    continues = unassigned_both p.continues q.continues ∙ ap (λ k. k || unassigned q.continues) f.continues ∙ g.continues;
  }
  arm_joined e b o false p q f g =
      let r : Bool = reads_local v e in
      agrees_same _ (branch_walk e (through_block b) (through_block o)) _ (record {
        sound = ap (λ s. s && (not r && q.sound)) f.sound ∙ ap (λ s. not (through_block o).reads && (not r && s)) g.sound ∙ join_sound (through_block o).reads r (through_block b).reads;
        falls = unassigned_both p.falls q.falls ∙ ap (λ k. k || unassigned q.falls) f.falls ∙ ap (λ k. (through_block o).missed Onward || k) g.falls ∙ or_comm ((through_block o).missed Onward) ((through_block b).missed Onward);
        breaks = unassigned_both p.breaks q.breaks ∙ ap (λ k. k || unassigned q.breaks) f.breaks ∙ ap (λ k. (through_block o).missed Broken || k) g.breaks ∙ or_comm ((through_block o).missed Broken) ((through_block b).missed Broken);
        continues = unassigned_both p.continues q.continues ∙ ap (λ k. k || unassigned q.continues) f.continues ∙ ap (λ k. (through_block o).missed Continued || k) g.continues ∙ or_comm ((through_block o).missed Continued) ((through_block b).missed Continued);
      })
      (same_back _ _ (branch_is e b o))

  given_same : (a : Bool) (w x : Walk) → Same w x → Same (given a w) (given a x)
  given_same true w x s = same_self silent
  given_same false w x s = s

  -- ---- loops

  while_agrees : (e : Expression) (b : Ways Event) (a : Bool) (q : Flow) → Agrees q (given a (through_block b)) →
      Agrees (after_reading (a || not (reads_local v e)) (looped None a q)) (given a (through_block (alone (Loops (Values e ∷ []) b))))
  while_agrees e b true q g = record { sound = g.sound; falls = refl; breaks = refl; continues = refl }
  while_agrees e b false q g =
      let r : Bool = reads_local v e in
      let w : Walk = through_block b in
      record {
        sound = ap (λ s. not r && s) g.sound ∙ not_or r w.reads ∙ ap not (sym (last_one ((r || false) || w.reads) true ∙ ap (λ k. k || w.reads) (or_false r)));
        falls = refl;
        breaks = refl;
        continues = refl;
      }

  loop_agrees : (turns : Option ℕ) (a : Bool) (b : Ways Event) (q : Flow) → Agrees q (given a (through_block b)) →
      Agrees (looped (turn_seen turns) a q) (given a (through_one (loop_of turns b)))
  loop_agrees None true b q g = record { sound = g.sound; falls = refl; breaks = refl; continues = refl }
  loop_agrees None false b q g = record { sound = g.sound; falls = refl; breaks = refl; continues = refl }
  loop_agrees (Some zero) a b q g = entered a
  loop_agrees (Some (suc n)) true b q g = record {
    sound = g.sound;
    falls = unassigned_both (both q.falls q.continues) q.breaks ∙ ap (λ k. k || unassigned q.breaks) (unassigned_both q.falls q.continues ∙ ap (λ k. k || unassigned q.continues) g.falls ∙ g.continues) ∙ g.breaks;
    breaks = refl;
    continues = refl;
  }
  loop_agrees (Some (suc n)) false b q g =
      let w : Walk = through_block b in
      record {
        sound = g.sound ∙ ap not (sym (alike_reads (reads v) (makes v) n b));
        falls = unassigned_both (both q.falls q.continues) q.breaks ∙ ap (λ k. k || unassigned q.breaks) (unassigned_both q.falls q.continues ∙ ap (λ k. k || unassigned q.continues) g.falls ∙ ap (λ k. w.missed Onward || k) g.continues)
            ∙ ap (λ k. (w.missed Onward || w.missed Continued) || k) g.breaks ∙ or_comm (w.missed Onward || w.missed Continued) (w.missed Broken) ∙ sym (alike_missed (reads v) (makes v) n b Onward);
        breaks = sym (alike_missed (reads v) (makes v) n b Broken);
        continues = sym (alike_missed (reads v) (makes v) n b Continued);
      }

  for_sound : (x z r : Bool) → (not (x || z) && not r) ≡ not (x || (z || r))
  for_sound true z r = refl
  for_sound false true r = refl
  for_sound false false r = refl

  for_agrees : (from to : Expression) (w : Way Event) (a : Bool) (p : Flow) → Agrees p (given a (through_one w)) →
      Agrees (after_reading (a || not (reads_local v from || reads_local v to)) p) (given a (through_block (First (Does (Values from)) (First (Does (Values to)) (alone w)))))
  for_agrees from to w true p g = record { sound = g.sound; falls = g.falls; breaks = g.breaks; continues = g.continues }
  for_agrees from to w false p g =
      let x : Bool = reads_local v from in
      let z : Bool = reads_local v to in
      let l : Walk = through_one w in
      record {
        sound = ap (λ s. not (x || z) && s) g.sound ∙ for_sound x z l.reads ∙ ap (λ k. not (x || (z || k))) (sym (last_one l.reads (l.missed Onward)));
        falls = g.falls ∙ sym (and_true (l.missed Onward));
        breaks = g.breaks ∙ sym (last_one (l.missed Broken) (l.missed Onward));
        continues = g.continues ∙ sym (last_one (l.missed Continued) (l.missed Onward));
      }

  -- whether a loop between these ends has a turn
  turns_seen : (down : Bool) (step : ℤ) (from to : Option ℤ) → turn_seen (turns_between down step from to) ≡ ends_give_turn down step from to
  turns_seen down step None to = refl
  turns_seen down step (Some a) None = refl
  turns_seen down step (Some a) (Some z) = of_test (if rises down step then int_lt a z else int_lt z a) _
    where
      of_test : (t : Bool) (n : ℕ) → turn_seen (Some (if t then suc n else 0)) ≡ Some t
      of_test true n = refl
      of_test false n = refl

  counted_agrees : (u : ℕ) (a down : Bool) (step : ℤ) (from to : Option ℤ) (b : Ways Event) (q : Flow) →
      Agrees q (in_row (in_row (given a (nothing Onward)) (event_walk (reads v) (makes v) (Makes u))) (through_block b)) →
      Agrees (looped (ends_give_turn down step from to) a q) (given a (through_one (loop_of (turns_between down step from to) (First (Does (Makes u)) b))))
  counted_agrees u a down step from to b q f =
      subst (λ o. Agrees (looped o a q) (given a (through_one (loop_of (turns_between down step from to) (First (Does (Makes u)) b))))) (turns_seen down step from to)
      (loop_agrees (turns_between down step from to) a (First (Does (Makes u)) b) q
      (from_start a q (through_block (First (Does (Makes u)) b)) (agrees_same q _ _ f (same_back _ _ (rows_assoc (given a (nothing Onward)) (event_walk (reads v) (makes v) (Makes u)) (through_block b))))))

  -- ---- statements

  bound_agrees : (u : ℕ) (a : Bool) → Agrees (passes true (a || u == v)) (in_row (given a (nothing Onward)) (event_walk (reads v) (makes v) (Makes u)))
  bound_agrees u true = record { sound = refl; falls = refl; breaks = refl; continues = refl }
  bound_agrees u false = record { sound = refl; falls = refl; breaks = refl; continues = refl }

  mutual
    unfolding while_flow for_flow has_turn turn_begins

    statement_agrees : (s : Statement) (a : Bool) → Agrees (walk v s a) (given a (through_block (ways s)))
    statement_agrees (Set l t e) a = set_agrees l t e a
    statement_agrees (If l arms other) a =
        arms_agrees arms (block_ways other) a (walk_block v other (passes true a)) (from_start a _ (through_block (block_ways other)) (block_agrees other (passes true a) (given a (nothing Onward)) (entered a)))
    statement_agrees (While l e b) a =
        while_agrees e (block_ways b) a (walk_block v b (passes true a)) (from_start a _ (through_block (block_ways b)) (block_agrees b (passes true a) (given a (nothing Onward)) (entered a)))
    statement_agrees (For l u down from to step b) a =
        for_agrees from to (loop_of (turns_between down step (constant_of from) (constant_of to)) (First (Does (Makes u)) (block_ways b))) a
        (looped (has_turn down step from to) a (walk_block v b (passes true (a || u == v))))
        (counted_agrees u a down step (constant_of from) (constant_of to) (block_ways b) (walk_block v b (passes true (a || u == v)))
        (block_agrees b (passes true (a || u == v)) (in_row (given a (nothing Onward)) (event_walk (reads v) (makes v) (Makes u))) (bound_agrees u a)))
    statement_agrees (Break l) true = record { sound = refl; falls = refl; breaks = refl; continues = refl }
    statement_agrees (Break l) false = record { sound = refl; falls = refl; breaks = refl; continues = refl }
    statement_agrees (Continue l) true = record { sound = refl; falls = refl; breaks = refl; continues = refl }
    statement_agrees (Continue l) false = record { sound = refl; falls = refl; breaks = refl; continues = refl }
    statement_agrees (Yield l waits) true = silent_agrees
    statement_agrees (Yield l waits) false = entered false
    statement_agrees (Print l parts) a = print_agrees l parts a
    statement_agrees (Assert l e) a = assert_agrees l e a
    statement_agrees (Stop l) true = record { sound = refl; falls = refl; breaks = refl; continues = refl }
    statement_agrees (Stop l) false = record { sound = refl; falls = refl; breaks = refl; continues = refl }

    block_agrees : (b : Block) (p : Flow) (w : Walk) → Agrees p w → Agrees (walk_block v b p) (in_row w (through_block (block_ways b)))
    block_agrees End p w f = agrees_same p w _ f (same_back _ _ (row_alone w))
    block_agrees (Then s b) p w f =
        agrees_same _ (in_row (in_row w (through_block (ways s))) (through_block (block_ways b))) _
        (block_agrees b (next p p.falls (λ a. walk v s a)) (in_row w (through_block (ways s))) (next_agrees p w (λ a. walk v s a) (through_block (ways s)) f (statement_agrees s)))
        (same_then _ _ _ (same_back _ _ (rows_assoc w (through_block (ways s)) (through_block (block_ways b))))
        (same_row w w _ _ (same_self w) (same_back _ _ (through_row (ways s) (block_ways b)))))

    arms_agrees : (arms : Arms) (o : Ways Event) (a : Bool) (p : Flow) → Agrees p (given a (through_block o)) → Agrees (walk_arms v arms a p) (given a (through_block (arms_ways arms o)))
    arms_agrees NoArm o a p f = f
    arms_agrees (MoreArms (ArmOf e b) arms) o a p f =
        agrees_same _ (given a (through_block (arms_ways arms (branch e (block_ways b) o)))) _
        (arms_agrees arms (branch e (block_ways b) o) a (joined p (walk_arm v (ArmOf e b) a))
        (arm_joined e (block_ways b) o a p (walk_block v b (passes true a)) f
        (from_start a _ (through_block (block_ways b)) (block_agrees b (passes true a) (given a (nothing Onward)) (entered a)))))
        (given_same a _ _ (same_then _ _ _ (branch_later arms e (block_ways b) o) (same_back _ _ (branch_is e (block_ways b) (arms_ways arms o)))))

  -- ---- the law

  not_both : (s r : Bool) → s ≡ not r → s ≡ true → r ≡ true → ⊥
  not_both s true e f h = cc
  not_both s false e f h = cc

  if_not : (s r : Bool) → s ≡ not r → (r ≡ true → ⊥) → s ≡ true
  if_not s true e h = absurd (h refl)
  if_not s false e h = e

  pub assigned_law : (b : Block) → ((walk_block v b (passes true false)).sound ≡ true) ↔ (MayReadFirst (reads v) (makes v) (block_ways b) → ⊥)
  assigned_law b =
      let f : Agrees (walk_block v b (passes true false)) (through_block (block_ways b)) = from_start false _ (through_block (block_ways b)) (block_agrees b (passes true false) (nothing Onward) (entered false)) in
      let law : ((through_block (block_ways b)).reads ≡ true) ↔ MayReadFirst (reads v) (makes v) (block_ways b) = reads_law (reads v) (makes v) (block_ways b) in (
        λ e m. not_both _ (through_block (block_ways b)).reads f.sound e (law.1 m),
        λ h. if_not _ (through_block (block_ways b)).reads f.sound (λ e. h (law.0 e)),
      )
