-- The world as the program holds it, and what its calls answer: this, unless memory ran out.
use Rattle.std.specs.Prelude.{◌≡◌, map, Result, Ok, Err}
use Rattle.mh_design.specs.Numbering.{body_of}
use Rattle.mh_world.specs.Statements.{block, st_of}
use Rattle.mh_world.specs.World as spec
use Rattle.mh_world.specs.World.{World, Broken}
use Rattle.mh_world.specs.Signals as signals
use Rattle.mh_text.specs.declared.fault.Fault.{Fault}
use Rattle.mh_text.specs.Faults.{Tells}
use Rattle.mh_world.specs.Functions as functions
use Rattle.mh_world.specs.Arguments as spec_arguments
use Rattle.mh_world.specs.declared.arguments.Arguments.{Arguments}
use Rattle.mh_world.specs.declared.function.Called.{Called}
use Rattle.mh_world.specs.declared.function.Function.{Function}
use Rattle.mh_world.specs.declared.function.Made.{Made}
use Rattle.mh_world.specs.declared.signals.Content.{Content}
use Rattle.mh_world.specs.declared.state.State.{State}

abbrev pub function_of : Function → spec.Function
function_of f = record
    { line = f.line; name = f.name; is_block = f.is_block; params = f.params; body = block (map st_of f.body.now); home = f.home }

abbrev pub called_of : Called → functions.Called
called_of d = record { line = d.line; name = d.name; is_block = d.is_block; body = block (map st_of d.body.now); home = d.home; arguments = d.arguments }

abbrev pub made_of : Made → spec.Made
made_of g = record {
  name = g.generator.path;
  line = g.generator.line;
  inside = g.inside;
  kind = g.generator.kind;
  locals = g.generator.locals;
  body = body_of g.generator;
}

abbrev pub world : State → World
world s = record {
  frames = s.frames.items;
  current = s.current;
  lists = s.scope.lists;
  marks = s.marks;
  design = s.design;
  tuples = s.tuples;
  functions = map function_of s.functions.items;
  known = s.known;
  instances = s.instances.items;
  generators = map made_of s.generators.items;
  requests = s.requests;
  left = s.left;
}

abbrev pub same : {A : Type 0} → A → A
same x = x

-- with the world after it
abbrev pub Does : {A B : Type 0} → (B → A) → Result (A × World) Broken → Result B (Fault Broken) → World → Type 0
Does view r x w = Tells (λ v. (view v, w)) r x

abbrev pub arguments_of : Arguments → spec_arguments.Arguments
arguments_of a = record { positional = a.positional.now; named = a.named }

abbrev pub content_of : Content → signals.Content
content_of x = record { values = x.values; kind = x.kind; init = x.init }
