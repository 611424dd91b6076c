-- How each form of statement is read, and statements and branches one after the other.
use Rattle.std.proofs.Common.{◌≡◌, ℕ, suc, ◌+◌, ◌<◌, ◌≤◌, Bool, true, false, List, [], ◌∷◌, ◌++◌, map, length, get_or, drop, Option, Some, None, Result, Ok, Err, refl, sym, ap, ◌∙◌, subst, add-one, drop-cons}
use Rattle.std.proofs.lemmas.List.{drop_all, map-append}
use Rattle.std.specs.Option.{option_map}
use Rattle.mh_pytree.specs.declared.expression.Operator.{Operator}
use Rattle.mh_pytree.specs.declared.expression.PyExpr.{PyExpr}
use Rattle.mh_pytree.specs.declared.statement.PyStmt.{PyStmt}
use Rattle.mh_pytree.specs.declared.statement.PyStmt.TheVariants as tree_of
use Rattle.mh_pytree.specs.declared.statement.Branch.{Branch as Choice}
use Rattle.mh_text.specs.declared.code.Code.TheVariants.{E2NotElaborable}
use Rattle.mh_consts.specs.declared.scope.Scope.{Scope}
use Rattle.mh_consts.specs.Expression.{Ex, ex_of}
use Rattle.mh_consts.specs.Names.{lookup}
use Rattle.mh_consts.specs.Outcome.{after}
use Rattle.mh_design.specs.declared.design.Design.{Design}
use Rattle.mh_design.specs.Tree as tree
use Rattle.mh_design.specs.Tree.{Statement, Arm, statement_of, arm_of}
use Rattle.mh_design.specs.declared.statement.GStmt.{GStmt}
use Rattle.mh_design.specs.declared.statement.Branch.{Branch}
use Rattle.mh_exprs.specs.declared.locals.Locals.{Locals}
use Rattle.mh_exprs.specs.declared.typed.Work.{Work}
use Rattle.mh_lower.specs.Bodies.{Branches, branches_of, branch_line, for_line, if_line, leave, read_line, read_lines, read_choice, read_choices, some, while_line, with_any, with_branch}
use Rattle.mh_lower.specs.Body as line
use Rattle.mh_lower.specs.Body.{Lines, Choices, line_of, choice_of, lines, lines_if_any, choices}
use Rattle.mh_lower.specs.Paths.{Paths, breaks, continues, stops, goes_on, meet}
use Rattle.mh_text.specs.declared.fault.Fault.{Fault}
use Rattle.mh_text.specs.declared.fault.Fault.TheVariants as fault
use Rattle.mh_lower.specs.Run.{Broken, Runs, placed, placed_with, then}
use Rattle.mh_lower.specs.Statements.{assign, augment, by_itself, claim, is_stop_call, yields}
use Rattle.mh_exprs.specs.Step.{just}
use Rattle.mh_lower.proofs.BodyForms.{bodies}
use Rattle.mh_lower.proofs.BodyForms as form

module _ (s : Scope) (ls : Locals) (instance loop : Bool) where
  abbrev pub one_line : line.Line → Work → Design → Result (Option Statement × Work × Design) Broken
  one_line x w d = read_line s ls instance loop x w d

  pub line-value : (l : ℕ) (e : Ex) (w : Work) (d : Design) → one_line (line.Value l e) w d ≡ placed l w (by_itself s ls w l e d)
  unfolding read_line read_lines read_choices read_choice
  line-value l e w d = refl

  pub line-assign : (l : ℕ) (t e : Ex) (w : Work) (d : Design) → one_line (line.Assign l t e) w d ≡ some (placed_with l (assign s ls w l t e d))
  unfolding read_line read_lines read_choices read_choice
  line-assign l t e w d = refl

  pub line-augment : (l : ℕ) (op : Operator) (t e : Ex) (w : Work) (d : Design) →
      one_line (line.Augment l op t e) w d ≡ some (placed_with l (augment s ls w l op t e d))
  unfolding read_line read_lines read_choices read_choice
  line-augment l op t e w d = refl

  pub line-pass : (w : Work) (d : Design) → one_line line.Pass w d ≡ Ok (None, w, d)
  unfolding read_line read_lines read_choices read_choice
  line-pass w d = refl

  pub line-break : (l : ℕ) (w : Work) (d : Design) → one_line (line.Break l) w d ≡ leave loop l (tree.Break l) breaks w d
  unfolding read_line read_lines read_choices read_choice
  line-break l w d = refl

  pub line-continue : (l : ℕ) (w : Work) (d : Design) → one_line (line.Continue l) w d ≡ leave loop l (tree.Continue l) continues w d
  unfolding read_line read_lines read_choices read_choice
  line-continue l w d = refl

  pub line-yield : (l : ℕ) (e : Ex) (w : Work) (d : Design) → one_line (line.Yield l e) w d ≡ some (placed l w (just (yields s ls instance l e) d))
  unfolding read_line read_lines read_choices read_choice
  line-yield l e w d = refl

  pub line-raise : (l : ℕ) (e : Ex) (w : Work) (d : Design) → one_line (line.Raise l e) w d ≡ leave (is_stop_call s ls e) l (tree.Stop l) stops w d
  unfolding read_line read_lines read_choices read_choice
  line-raise l e w d = refl

  pub line-assert : (l : ℕ) (e : Ex) (w : Work) (d : Design) → one_line (line.Assert l e) w d ≡ some (placed l w (claim s ls w l e d))
  unfolding read_line read_lines read_choices read_choice
  line-assert l e w d = refl

  pub line-forbidden : (l : ℕ) (w : Work) (d : Design) → one_line (line.Forbidden l) w d ≡ Err (E2NotElaborable, l)
  unfolding read_line read_lines read_choices read_choice
  line-forbidden l w d = refl

  pub line-if : (l : ℕ) (cs : Choices) (other : Lines) (w : Work) (d : Design) →
      one_line (line.If l cs other) w d
      ≡ some (if_line l (λ p. read_choices s ls instance loop l p ([], None) cs) (read_lines s ls instance loop [] other) w d)
  unfolding read_line read_lines read_choices read_choice
  line-if l cs other w d = refl

  pub line-while : (l : ℕ) (e : Ex) (b : Lines) (w : Work) (d : Design) →
      one_line (line.While l e b) w d ≡ some (while_line s ls l e (read_lines s ls instance true [] b) w d)
  unfolding read_line read_lines read_choices read_choice
  line-while l e b w d = refl

  pub line-for : (l : ℕ) (t : List ℕ) (e : Ex) (b : Lines) (w : Work) (d : Design) →
      one_line (line.For l t e b) w d ≡ some (for_line s ls l (lookup ls.numbers t) e (read_lines s ls instance true [] b) w d)
  unfolding read_line read_lines read_choices read_choice
  line-for l t e b w d = refl

  -- ---- statements one after the other

  abbrev pub body : List Statement → List PyStmt → Work → Design → Result (List Statement × Work × Design) Broken
  body out xs w d = read_lines s ls instance loop out (lines (map line_of xs)) w d

  pub lines-end : (out : List Statement) (w : Work) (d : Design) → body out [] w d ≡ Ok (out, w, d)
  unfolding read_line read_lines read_choices read_choice
  lines-end out w d = refl

  lines-then : (out : List Statement) (x : PyStmt) (xs : List PyStmt) (w : Work) (d : Design) (r : Result (Option Statement × Work × Design) Broken) →
      one_line (line_of x) w d ≡ r → body out (x ∷ xs) w d ≡ then r (λ m v c. body (with_any out m) xs v c)
  unfolding read_line read_lines read_choices read_choice
  lines-then out x xs w d r h = ap (λ (r : Result (Option Statement × Work × Design) Broken). then r (λ m v c. body (with_any out m) xs v c)) h

  pub lines-none : (out : List Statement) (x : PyStmt) (xs : List PyStmt) (w v : Work) (d c : Design) →
      one_line (line_of x) w d ≡ Ok (None, v, c) → body out (x ∷ xs) w d ≡ body out xs v c
  lines-none out x xs w v d c h = lines-then out x xs w d (Ok (None, v, c)) h

  pub lines-one : (out : List Statement) (x : PyStmt) (xs : List PyStmt) (t : Statement) (w v : Work) (d c : Design) →
      one_line (line_of x) w d ≡ Ok (Some t, v, c) → body out (x ∷ xs) w d ≡ body (out ++ t ∷ []) xs v c
  lines-one out x xs t w v d c h = lines-then out x xs w d (Ok (Some t, v, c)) h

  pub lines-broken : (out : List Statement) (x : PyStmt) (xs : List PyStmt) (b : Broken) (w : Work) (d : Design) →
      one_line (line_of x) w d ≡ Err b → body out (x ∷ xs) w d ≡ Err b
  lines-broken out x xs b w d h = lines-then out x xs w d (Err b) h

module _ (s : Scope) (ls : Locals) (instance loop : Bool) (l : ℕ) where
  pub choice-where : (e : Ex) (b : Lines) (w : Work) (d : Design) →
      read_choice s ls instance loop l (line.Where e b) w d ≡ branch_line s ls l e (read_lines s ls instance loop [] b) w d
  unfolding read_line read_lines read_choices read_choice
  choice-where e b w d = refl

  module _ (p : Paths) where
    abbrev pub branches : Branches → List Choice → Work → Design → Result (Branches × Work × Design) Broken
    branches done xs w d = read_choices s ls instance loop l p done (choices (map choice_of xs)) w d

    pub branches-end : (done : Branches) (w : Work) (d : Design) → branches done [] w d ≡ Ok (done, w, d)
    unfolding read_line read_lines read_choices read_choice
    branches-end done w d = refl

    branches-then : (done : Branches) (x : Choice) (xs : List Choice) (w : Work) (d : Design) (r : Result (Arm × Work × Design) Broken) →
        read_choice s ls instance loop l (choice_of x) (goes_on p w) d ≡ r →
        branches done (x ∷ xs) w d ≡ then r (λ a v c. branches (with_branch done a v) xs v c)
    unfolding read_line read_lines read_choices read_choice
    branches-then done x xs w d r h = ap (λ (r : Result (Arm × Work × Design) Broken). then r (λ a v c. branches (with_branch done a v) xs v c)) h

    pub branches-more : (done : Branches) (x : Choice) (xs : List Choice) (a : Arm) (w v : Work) (d c : Design) →
        read_choice s ls instance loop l (choice_of x) (goes_on p w) d ≡ Ok (a, v, c) →
        branches done (x ∷ xs) w d ≡ branches (with_branch done a v) xs v c
    branches-more done x xs a w v d c h = branches-then done x xs w d (Ok (a, v, c)) h

    pub branches-broken : (done : Branches) (x : Choice) (xs : List Choice) (b : Broken) (w : Work) (d : Design) →
        read_choice s ls instance loop l (choice_of x) (goes_on p w) d ≡ Err b → branches done (x ∷ xs) w d ≡ Err b
    branches-broken done x xs b w d h = branches-then done x xs w d (Err b) h

-- ---- one after the other, from the place where a loop over them stands

-- what is left at a place
next_of : {A : Type 0} (xs : List A) (i : ℕ) (x : A) → i < length xs → x ≡ get_or xs i x → drop i xs ≡ x ∷ drop (i + 1) xs
next_of xs i x h g = drop-cons xs i x h ∙ ap (λ y. y ∷ drop (suc i) xs) (sym g) ∙ ap (λ n. x ∷ drop n xs) (sym (add-one i))

-- a statement after which no path goes on
pub left : (allowed : Bool) (l : ℕ) (s t : Statement) (f : Work → Work) (w v : Work) (d : Design) →
    allowed ≡ true → t ≡ s → v ≡ f w → leave allowed l s f w d ≡ Ok (Some t, v, d)
left true l s t f w v d h e g = ap (λ (y : Statement). Ok (Some y, f w, d)) (sym e) ∙ ap (λ (y : Work). Ok (Some t, y, d)) (sym g)
left false l s t f w v d h e g = absurd (cc)

pub runs_same : {A B : Type 0} (view : B → A) (r q : Result (A × Work × Design) Broken) (x : Result B (Fault Broken)) (w : Work) (d : Design) →
    r ≡ q → Runs view r x w d → Runs view q x w d
runs_same view r q x w d h g = subst (λ y. Runs view y x w d) h g

-- what is refused on the way is refused
pub raised : {A B : Type 0} (view : B → A) (r q : Result (A × Work × Design) Broken) (x : Result B (Fault Broken)) (e : Fault Broken) (w : Work) (d : Design) →
    x ≡ Err e → r ≡ q → Runs view r (Err e) w d → Runs view q x w d
raised view r q x e w d h g run = subst (λ y. Runs view q y w d) (sym h) (subst (λ y. Runs view y (Err e) w d) g run)

module _ (s : Scope) (ls : Locals) (instance loop : Bool) where
  pub if-read : (x : PyStmt) (l : ℕ) (bs cs : List Choice) (other : Option (List PyStmt)) (w : Work) (d : Design) → x ≡ tree_of.If l bs other → cs ≡ bs →
      some (if_line l (λ p. read_choices s ls instance loop l p ([], None) (choices (map choice_of cs))) (read_lines s ls instance loop [] (lines_if_any (option_map (map line_of) other))) w d)
      ≡ one_line s ls instance loop (line_of x) w d
  if-read x l bs cs other w d h e =
      ap (λ ys. some (if_line l (λ p. read_choices s ls instance loop l p ([], None) (choices (map choice_of ys))) (read_lines s ls instance loop [] (lines_if_any (option_map (map line_of) other))) w d)) e
      ∙ sym (ap (λ y. one_line s ls instance loop y w d) (ap line_of h ∙ form.line-if l bs other) ∙ line-if s ls instance loop l (choices (map choice_of bs)) (lines_if_any (option_map (map line_of) other)) w d)

  -- a statement whose plain form this is
  form-read : (x : PyStmt) (a : line.Line) (r : Result (Option Statement × Work × Design) Broken) (w : Work) (d : Design) → line_of x ≡ a → one_line s ls instance loop a w d ≡ r → r ≡ one_line s ls instance loop (line_of x) w d
  form-read x a r w d h g = sym (ap (λ y. one_line s ls instance loop y w d) h ∙ g)

  pub break-read : (x : PyStmt) (l : ℕ) (w : Work) (d : Design) → x ≡ tree_of.Break l → leave loop l (tree.Break l) breaks w d ≡ one_line s ls instance loop (line_of x) w d
  break-read x l w d h = form-read x (line.Break l) (leave loop l (tree.Break l) breaks w d) w d (ap line_of h ∙ form.line-break l) (line-break s ls instance loop l w d)

  pub continue-read : (x : PyStmt) (l : ℕ) (w : Work) (d : Design) → x ≡ tree_of.Continue l → leave loop l (tree.Continue l) continues w d ≡ one_line s ls instance loop (line_of x) w d
  continue-read x l w d h = form-read x (line.Continue l) (leave loop l (tree.Continue l) continues w d) w d (ap line_of h ∙ form.line-continue l) (line-continue s ls instance loop l w d)

  pub yield-read : (x : PyStmt) (l : ℕ) (e : PyExpr) (w : Work) (d : Design) → x ≡ tree_of.Yield l e → some (placed l w (just (yields s ls instance l (ex_of e)) d)) ≡ one_line s ls instance loop (line_of x) w d
  yield-read x l e w d h = form-read x (line.Yield l (ex_of e)) (some (placed l w (just (yields s ls instance l (ex_of e)) d))) w d (ap line_of h ∙ form.line-yield l e) (line-yield s ls instance loop l (ex_of e) w d)

  pub raise-read : (x : PyStmt) (l : ℕ) (e : PyExpr) (w : Work) (d : Design) → x ≡ tree_of.Raise l e → leave (is_stop_call s ls (ex_of e)) l (tree.Stop l) stops w d ≡ one_line s ls instance loop (line_of x) w d
  raise-read x l e w d h = form-read x (line.Raise l (ex_of e)) (leave (is_stop_call s ls (ex_of e)) l (tree.Stop l) stops w d) w d (ap line_of h ∙ form.line-raise l e) (line-raise s ls instance loop l (ex_of e) w d)

  pub lines_end : (out : List Statement) (xs : List PyStmt) (i : ℕ) (w : Work) (d : Design) → length xs ≤ i →
      body s ls instance loop out (drop i xs) w d ≡ Ok (out, w, d)
  lines_end out xs i w d h = ap (λ ys. body s ls instance loop out ys w d) (drop_all i xs h) ∙ lines-end s ls instance loop out w d

  pub lines_step : (out out2 : List GStmt) (xs : List PyStmt) (i : ℕ) (x : PyStmt) (o : Result (Option GStmt) (Fault Broken)) (m : Option GStmt) (w v : Work) (d c : Design) →
      i < length xs → x ≡ get_or xs i x → o ≡ Ok m → Runs (option_map statement_of) (one_line s ls instance loop (line_of x) w d) o v c →
      map statement_of out2 ≡ with_any (map statement_of out) (option_map statement_of m) →
      body s ls instance loop (map statement_of out2) (drop (i + 1) xs) v c ≡ body s ls instance loop (map statement_of out) (drop i xs) w d
  lines_step out out2 xs i x o m w v d c h g is run grown =
      let ran : one_line s ls instance loop (line_of x) w d ≡ Ok (option_map statement_of m, v, c) = subst (λ y. Runs (option_map statement_of) (one_line s ls instance loop (line_of x) w d) y v c) is run in
      ap (λ ys. body s ls instance loop ys (drop (i + 1) xs) v c) grown
      ∙ sym (ap (λ ys. body s ls instance loop (map statement_of out) ys w d) (next_of xs i x h g)
      ∙ lines-then s ls instance loop (map statement_of out) x (drop (i + 1) xs) w d (Ok (option_map statement_of m, v, c)) ran)

  lines_broken : (out : List Statement) (xs : List PyStmt) (i : ℕ) (x : PyStmt) (e : Fault Broken) (w v : Work) (d c : Design) →
      i < length xs → x ≡ get_or xs i x → Runs (option_map statement_of) (one_line s ls instance loop (line_of x) w d) (Err e) v c →
      Runs (map statement_of) (body s ls instance loop out (drop i xs) w d) (Err e) v c
  lines_broken out xs i x (fault.Broken rule) w v d c h g run =
      ap (λ ys. body s ls instance loop out ys w d) (next_of xs i x h g) ∙ lines-broken s ls instance loop out x (drop (i + 1) xs) rule w d run
  lines_broken out xs i x fault.Memory w v d c h g run = tt

  pub lines_refused : (out : List Statement) (xs : List PyStmt) (i : ℕ) (x : PyStmt) (o : Result (Option GStmt) (Fault Broken)) (e : Fault Broken) (w v : Work) (d c : Design) →
      i < length xs → x ≡ get_or xs i x → o ≡ Err e → Runs (option_map statement_of) (one_line s ls instance loop (line_of x) w d) o v c →
      Runs (map statement_of) (body s ls instance loop out (drop i xs) w d) (Err e) v c
  lines_refused out xs i x o e w v d c h g is run =
      lines_broken out xs i x e w v d c h g (subst (λ y. Runs (option_map statement_of) (one_line s ls instance loop (line_of x) w d) y v c) is run)

module _ (s : Scope) (ls : Locals) (instance loop : Bool) (l : ℕ) (p : Paths) where
  pub branches_end : (done : Branches) (xs : List Choice) (i : ℕ) (w : Work) (d : Design) → length xs ≤ i →
      branches s ls instance loop l p done (drop i xs) w d ≡ Ok (done, w, d)
  branches_end done xs i w d h = ap (λ ys. branches s ls instance loop l p done ys w d) (drop_all i xs h) ∙ branches-end s ls instance loop l p done w d

  pub branches_step : (arms2 arms : List Branch) (after2 after : Paths) (xs : List Choice) (i : ℕ) (x : Choice) (o : Result Branch (Fault Broken)) (b : Branch) (q : Paths) (w v : Work) (d c : Design) →
      i < length xs → x ≡ get_or xs i x → o ≡ Ok b → q ≡ p → Runs arm_of (read_choice s ls instance loop l (choice_of x) (goes_on q w) d) o v c →
      arms2 ≡ arms ++ b ∷ [] → after2 ≡ meet after v.here →
      branches s ls instance loop l p (map arm_of arms2, after2) (drop (i + 1) xs) v c ≡ branches s ls instance loop l p (map arm_of arms, after) (drop i xs) w d
  branches_step arms2 arms after2 after xs i x o b q w v d c h g is from run grown met =
      let here : Runs arm_of (read_choice s ls instance loop l (choice_of x) (goes_on p w) d) o v c = subst (λ (y : Paths). Runs arm_of (read_choice s ls instance loop l (choice_of x) (goes_on y w) d) o v c) from run in
      let ran : read_choice s ls instance loop l (choice_of x) (goes_on p w) d ≡ Ok (arm_of b, v, c) = subst (λ y. Runs arm_of (read_choice s ls instance loop l (choice_of x) (goes_on p w) d) y v c) is here in
      let same : map arm_of arms2 ≡ map arm_of arms ++ arm_of b ∷ [] = ap (map arm_of) grown ∙ map-append arm_of arms (b ∷ []) in
      ap (λ ys. branches s ls instance loop l p (ys, after2) (drop (i + 1) xs) v c) same
      ∙ ap (λ (q : Paths). branches s ls instance loop l p (map arm_of arms ++ arm_of b ∷ [], q) (drop (i + 1) xs) v c) met
      ∙ sym (ap (λ ys. branches s ls instance loop l p (map arm_of arms, after) ys w d) (next_of xs i x h g)
      ∙ branches-more s ls instance loop l p (map arm_of arms, after) x (drop (i + 1) xs) (arm_of b) w v d c ran)

  branches_broken : (done : Branches) (xs : List Choice) (i : ℕ) (x : Choice) (e : Fault Broken) (w v : Work) (d c : Design) →
      i < length xs → x ≡ get_or xs i x → Runs arm_of (read_choice s ls instance loop l (choice_of x) (goes_on p w) d) (Err e) v c →
      Runs branches_of (branches s ls instance loop l p done (drop i xs) w d) (Err e) v c
  branches_broken done xs i x (fault.Broken rule) w v d c h g run =
      ap (λ ys. branches s ls instance loop l p done ys w d) (next_of xs i x h g) ∙ branches-broken s ls instance loop l p done x (drop (i + 1) xs) rule w d run
  branches_broken done xs i x fault.Memory w v d c h g run = tt

  pub branches_refused : (done : Branches) (xs : List Choice) (i : ℕ) (x : Choice) (o : Result Branch (Fault Broken)) (e : Fault Broken) (q : Paths) (w v : Work) (d c : Design) →
      i < length xs → x ≡ get_or xs i x → o ≡ Err e → q ≡ p → Runs arm_of (read_choice s ls instance loop l (choice_of x) (goes_on q w) d) o v c →
      Runs branches_of (branches s ls instance loop l p done (drop i xs) w d) (Err e) v c
  branches_refused done xs i x o e q w v d c h g is from run =
      let here : Runs arm_of (read_choice s ls instance loop l (choice_of x) (goes_on p w) d) o v c = subst (λ (y : Paths). Runs arm_of (read_choice s ls instance loop l (choice_of x) (goes_on y w) d) o v c) from run in
      branches_broken done xs i x e w v d c h g (subst (λ y. Runs arm_of (read_choice s ls instance loop l (choice_of x) (goes_on p w) d) y v c) is here)

pub ruleset statements = (bodies, line-value, line-assign, line-augment, line-pass, line-break, line-continue, line-yield, line-raise, line-assert, line-forbidden, line-if, line-while, line-for)

pub ruleset blocks = (bodies, lines-end, lines-none, lines-one, lines-broken, choice-where, branches-end, branches-more, branches-broken)
