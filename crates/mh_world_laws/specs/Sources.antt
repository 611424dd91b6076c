-- Statements that are those of a source which was read: at most 200 levels deep, and their names are
-- names.
use Rattle.std.specs.Prelude.{◌≡◌, ◌≤◌, ℕ, Bool, true, List, [], ◌∷◌, map}
use Rattle.std.specs.List.{list_all}
use Rattle.mh_pytree.specs.declared.statement.PyStmt.{PyStmt}
use Rattle.mh_pytree.specs.declared.statement.FuncDef.{FuncDef}
use Rattle.mh_pytree.specs.Depth.{text_depth, def_depth}
use Rattle.mh_pytree.specs.Names.{are_names, def_names}
use Rattle.mh_design.specs.WellFormed.{is_name}
use Rattle.mh_world.specs.Statements.{St, Fn, Block, Choice, Choices, Target, ToName, ToItem, ToNames, ToNothing, Value, Assign, Augment, Pass, Break, Continue, Return, Yield, Raise, Assert, ImportAll, Import, Define, If, For, While, Where, NoChoice, OrElse, block, st_of, fn_of}

-- some statements of a source
pub record IsSource (b : Block) : Type 0 where
  pub statements : List PyStmt
  pub is : b ≡ block (map st_of statements)
  pub depth : text_depth statements ≤ 200
  pub names : are_names statements ≡ true

-- a definition in a source, which is a level of what it stands in
pub record IsDefinition (f : Fn) : Type 0 where
  pub definition : FuncDef
  pub is : f ≡ fn_of definition
  pub depth : def_depth definition ≤ 199
  pub names : def_names definition ≡ true

-- what a target binds are names
abbrev pub target_fits : Target → Bool
target_fits (ToName t) = is_name t
target_fits (ToItem base place) = true
target_fits (ToNames ts) = list_all is_name ts
target_fits (ToNothing parts) = true

abbrev pub ChoiceParts : Choice → Type 0
ChoiceParts (Where e b) = IsSource b

abbrev pub ChoicesParts : Choices → Type 0
ChoicesParts NoChoice = Unit {0}
ChoicesParts (OrElse c cs) = ChoiceParts c × ChoicesParts cs

-- what stands in a statement of a source is of a source
abbrev pub Parts : St → Type 0
Parts (Value l e) = Unit {0}
Parts (Assign l t left e) = target_fits t ≡ true
Parts (Augment l op t left e) = target_fits t ≡ true
Parts (Pass l) = Unit {0}
Parts (Break l) = Unit {0}
Parts (Continue l) = Unit {0}
Parts (Return l e) = Unit {0}
Parts (Yield l e) = Unit {0}
Parts (Raise l e) = Unit {0}
Parts (Assert l e) = Unit {0}
Parts (ImportAll l) = Unit {0}
Parts (Import l ts) = list_all is_name ts ≡ true
Parts (Define f) = IsDefinition f
Parts (If l cs other) = ChoicesParts cs × IsSource other
Parts (For l t e b) = (is_name t ≡ true) × IsSource b
Parts (While l e b) = IsSource b
