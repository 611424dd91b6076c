-- Which names stand in the definition of a generator, and which of them its body reads from outside.
use Rattle.std.specs.Prelude.{ℕ, Bool, not, List, [], ◌∷◌, ◌++◌, filter}
use Rattle.mh_consts.specs.Expression as x
use Rattle.mh_consts.specs.Expression.{Ex, Exs}
use Rattle.mh_lower.specs.Body as line
use Rattle.mh_lower.specs.Body.{Line, Lines, Choice, Choices}
use Rattle.mh_exprs.specs.Constant.{is_local}
use Rattle.mh_lower.specs.Generators.{no_locals, locals_in_lines}

-- ---- the names in a tree

abbrev mutual
  pub in_ex : Ex → List (List ℕ)
  in_ex (x.Number n) = []
  in_ex (x.Str bytes) = []
  in_ex (x.Truth b) = []
  in_ex x.Nothing = []
  in_ex (x.Name t) = t ∷ []
  in_ex (x.And a b) = in_ex a ++ in_ex b
  in_ex (x.Or a b) = in_ex a ++ in_ex b
  in_ex (x.Op h xs) = in_exs xs
  in_ex (x.Collect item t over) = in_ex item ++ in_ex over

  pub in_exs : Exs → List (List ℕ)
  in_exs x.NoMore = []
  in_exs (x.More e es) = in_ex e ++ in_exs es

abbrev mutual
  pub in_line : Line → List (List ℕ)
  in_line (line.Value l e) = in_ex e
  in_line (line.Assign l target e) = in_ex target ++ in_ex e
  in_line (line.Augment l op target e) = in_ex target ++ in_ex e
  in_line line.Pass = []
  in_line (line.Break l) = []
  in_line (line.Continue l) = []
  in_line (line.Yield l e) = in_ex e
  in_line (line.Raise l e) = in_ex e
  in_line (line.Assert l e) = in_ex e
  in_line (line.If l cs other) = in_choices cs ++ in_lines other
  in_line (line.For l t over b) = in_ex over ++ in_lines b
  in_line (line.While l e b) = in_ex e ++ in_lines b
  in_line (line.Forbidden l) = []

  pub in_lines : Lines → List (List ℕ)
  in_lines line.End = []
  in_lines (line.Then s b) = in_line s ++ in_lines b

  pub in_choice : Choice → List (List ℕ)
  in_choice (line.Where e b) = in_ex e ++ in_lines b

  pub in_choices : Choices → List (List ℕ)
  in_choices line.NoChoice = []
  in_choices (line.OrElse c cs) = in_choice c ++ in_choices cs

abbrev pub in_all : List Ex → List (List ℕ)
in_all [] = []
in_all (e ∷ es) = in_ex e ++ in_all es

-- ---- what a body reads from outside: the names that it doesn't assign

abbrev pub reads_of : Lines → List (List ℕ)
reads_of b = filter (λ t. not (is_local (locals_in_lines no_locals b) t)) (in_lines b)
