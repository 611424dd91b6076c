-- The line of a print, and its fault.
use Rattle.std.proofs.Common.{◌≡◌, ℕ, zero, suc, ◌<◌, true, List, [], ◌∷◌, map, get_or, refl, sym, ap, ◌∙◌, subst}
use Rattle.std.specs.Prelude.{Result, Ok, Err, Some, slice_get, slice_set}
use Rattle.mh_design.specs.declared.design.Design.{Design}
use Rattle.mh_design.specs.declared.design.Generator.{Generator}
use Rattle.mh_design.specs.declared.statement.PrintPart.{PrintPart}
use Rattle.mh_design.specs.Bodies.{prints_at, line_at}
use Rattle.mh_design.specs.Tree.{printed_of}
use Rattle.mh_design.specs.WellFormed.{is_well_formed}
use Rattle.mh_gen.specs.Running.{RunsIn, AllFit}
use Rattle.mh_design.specs.Values.{Signals, Store, Fault as Meant, Range, Index, Divide, NumberTooWide, Shift}
use Rattle.mh_design.specs.Deltas.{Process, InFault, Faults, pieces_of, store_of}
use Rattle.mh_sched.specs.declared.line.Unsaid.{Unsaid}
use Rattle.mh_sched.specs.declared.line.Unsaid.TheVariants as unsaid
use Rattle.mh_sched.specs.declared.fault.SimFault.{SimFault}
use Rattle.mh_sched.specs.declared.plan.Plan.{Plan}
use Rattle.mh_sched.specs.declared.process.Process.{Process as Kept}
use Rattle.mh_sched.specs.declared.run.Run.{Run}
use Rattle.mh_sched.specs.Calls.{line_or, printed}
use Rattle.mh_sched.specs.Faults.{fault_of}
use Rattle.mh_sched.specs.Lines.{Line, put_line}
use Rattle.mh_sched.specs.Unsaid.{IsUnsaid, fault_unsaid}
use Rattle.mh_sched.specs.Kept.{IsPlan, IsRun, IsSomeRun, AllSaid, own_store, design_of, said_on, IsSaidFault}
use Rattle.mh_sched.proofs.Stepping.{here, runs_in, plan_at, kept_at}

pub said_line : (bs cs : List ℕ) (l : ℕ) (r : Result Line Meant) → put_line bs r ≡ Ok cs → said_on bs (line_or l r) ≡ Ok cs
said_line bs cs l (Ok ps) e = cc
said_line bs cs l (Err f) e = absurd cc

said_by : (time l : ℕ) (f : Meant) → IsSaidFault time (fault_of time l f) (Err (InFault l (Faults f)))
said_by time l (Range v low high) =
    record { ending = InFault l (Faults (Range v low high)); is = refl; answer = refl }
said_by time l (Index v low high) =
    record { ending = InFault l (Faults (Index v low high)); is = refl; answer = refl }
said_by time l (Divide v) = record { ending = InFault l (Faults (Divide v)); is = refl; answer = refl }
said_by time l NumberTooWide =
    record { ending = InFault l (Faults NumberTooWide); is = refl; answer = refl }
said_by time l (Shift v) = record { ending = InFault l (Faults (Shift v)); is = refl; answer = refl }

pub said_fault : (time l : ℕ) (why : Unsaid) (r : Result Line Meant) → IsUnsaid why r → IsSaidFault time (fault_unsaid time l why) (line_or l r)
said_fault time l (unsaid.Fault f) r w =
    subst (λ v. IsSaidFault time (fault_of time l f) (line_or l v)) (sym w) (said_by time l f)
said_fault time l unsaid.Memory r w = tt

-- The store in which a generator prints.
store_here : {r : Run} {time : ℕ} {s : Signals} {xs : List Process} {counts : ℕ → ℕ} → IsRun r time s xs counts → (q : Kept) (x : Process) → q.locals ≡ x.locals → record r.store { locals = q.locals } ≡ store_of (design_of r) time s x
store_here {r} {time} {s} w q x e =
    ap (λ l. record { design = r.store.design; signals = r.store.signals; locals = l; time = r.store.time }) e ∙ ap (λ v. record { design = r.store.design; signals = v; locals = x.locals; time = r.store.time }) w.signals ∙ ap (λ v. record { design = r.store.design; signals = s; locals = x.locals; time = v }) w.time_is

module _ {r : Run} (k n : ℕ) (p : Plan) (q : Kept) (ps : List PrintPart) (store : Store) (some : IsSomeRun r) (h : k < r.count) (ip : p ≡ get_or r.plans.items k p) (iq : q ≡ get_or r.processes.items k q) (parts : (d : Design) (g : Generator) → IsPlan d g p → map printed_of ps ≡ prints_at g n) (es : store ≡ record r.store { locals = q.locals }) where
  ep : slice_get r.plans.items k ≡ Some p
  ep = plan_at k some h p ip

  eq : slice_get r.processes.items k ≡ Some q
  eq = kept_at k some h q iq

  pieces_are : {time : ℕ} {s : Signals} {xs : List Process} {counts : ℕ → ℕ} (g : Generator) (x : Process) → IsRun r time s xs counts → slice_get (design_of r).generators k ≡ Some g → slice_get xs k ≡ Some x → pieces_of store (map printed_of ps) ≡ pieces_of (store_of (design_of r) time s x) (prints_at g n)
  pieces_are g x w eg ex =
      let a = w.all k g p q x eg ep eq ex in
      ap (pieces_of store) (parts (design_of r) g a.0) ∙ ap (λ u. pieces_of u (prints_at g n)) (es ∙ store_here w q x a.1.locals)

  pub all_fit : ((d : Design) (j : ℕ) (g : Generator) (s : Store) (m : ℕ) → is_well_formed d ≡ true → slice_get d.generators j ≡ Some g → RunsIn d g s → AllFit (prints_at g m) s) → AllFit (map printed_of ps) store
  all_fit prints =
      let w = some.run in
      let o = here k w h in
      let a = w.all k o.generator p q o.state o.generator_at ep eq o.state_at in
      let runs = runs_in w o.generator p q o.state (some.counts k) a.1 in
      let e : store ≡ own_store r.store o.state = es ∙ ap (λ l. record r.store { locals = l }) a.1.locals in
      let f = prints (design_of r) k o.generator (own_store r.store o.state) n w.formed o.generator_at runs in
      subst (λ u. AllFit u store) (sym (parts (design_of r) o.generator a.0)) (subst (λ u. AllFit (prints_at o.generator n) u) (sym e) f)

  pub all_said : (bs cs : List ℕ) → put_line bs (pieces_of store (map printed_of ps)) ≡ Ok cs → AllSaid r k n (λ line. said_on bs line ≡ Ok cs)
  all_said bs cs e time s xs counts g x w eg ex =
      said_line bs cs (line_at g n) (pieces_of (store_of (design_of r) time s x) (prints_at g n)) (ap (put_line bs) (sym (pieces_are g x w eg ex)) ∙ e)

  pub all_unsaid : (why : Unsaid) (f : SimFault) (line : ℕ) → IsUnsaid why (pieces_of store (map printed_of ps)) → ((d : Design) (g : Generator) → IsPlan d g p → line ≡ line_at g n) → f ≡ fault_unsaid r.store.time line why → AllSaid r k n (IsSaidFault r.store.time f)
  all_unsaid why f line u lines e time s xs counts g x w eg ex =
      let a = w.all k g p q x eg ep eq ex in
      let i = subst (λ v. IsUnsaid why v) (pieces_are g x w eg ex) u in
      subst (λ v. IsSaidFault r.store.time v (printed g n (store_of (design_of r) time s x))) (sym (e ∙ ap (λ l. fault_unsaid r.store.time l why) (lines (design_of r) g a.0))) (said_fault r.store.time (line_at g n) why (pieces_of (store_of (design_of r) time s x) (prints_at g n)) i)

-- A store and a process that get back their locals are as they were.
pub store_back : {s s1 s2 : Store} {q q1 : Kept} → q1 ≡ record q { locals = s.locals } → s1 ≡ record s { locals = q.locals } → s2 ≡ record s1 { locals = q1.locals } → s2 ≡ s
store_back {s} {s1} {s2} {q} {q1} e1 e2 e3 =
    e3 ∙ ap {A = Store} (λ v. record v { locals = q1.locals }) e2 ∙ ap {A = Kept} (λ v. record s { locals = v.locals }) e1

pub kept_back : {s s1 : Store} {q q1 q2 : Kept} → q1 ≡ record q { locals = s.locals } → s1 ≡ record s { locals = q.locals } → q2 ≡ record q1 { locals = s1.locals } → q2 ≡ q
kept_back {s} {s1} {q} {q1} {q2} e1 e2 e3 =
    e3 ∙ ap {A = Store} (λ v. record q1 { locals = v.locals }) e2 ∙ ap {A = Kept} (λ v. record v { locals = q.locals }) e1

pub set_again : {X : Type 0} (xs : List X) (i : ℕ) (x : X) → slice_get xs i ≡ Some x → slice_set xs i x ≡ xs
set_again [] i x e = refl
set_again (y ∷ ys) zero x e = let i : y ≡ x = cc in ap (λ z. z ∷ ys) (sym i)
set_again (y ∷ ys) (suc i) x e = ap (λ zs. y ∷ zs) (set_again ys i x e)
