-- What is imported is of each design, and reading a generator of a source keeps a world that fits.
use Rattle.std.proofs.Common.{◌≡◌, ◌≤◌, ℕ, suc, Bool, true, false, ◌&&◌, List, [], ◌∷◌, ◌++◌, map, length, Option, Some, None, Result, Ok, Err, refl, ap, sym, ◌∙◌, subst, codes}
use Rattle.std.proofs.lemmas.List.{length-map}
use Rattle.std.specs.Prelude.{IfOk}
use Rattle.std.specs.List.{list_all}
use Rattle.std.proofs.lemmas.Bool.{and_parts, and_from}
use Rattle.mh_pytree.specs.declared.statement.FuncDef.{FuncDef, out-FuncDef}
use Rattle.mh_pytree.specs.Depth.{def_depth}
use Rattle.mh_pytree.specs.Names.{def_names}
use Rattle.mh_consts.specs.declared.kinds.Builtin.{Builtin}
use Rattle.mh_consts.specs.declared.kinds.Builtin.TheVariants as builtin
use Rattle.mh_consts.specs.declared.kinds.Const.{Const}
use Rattle.mh_consts.specs.declared.kinds.Const.TheVariants as c
use Rattle.mh_consts.specs.declared.scope.Scope.{Scope}
use Rattle.mh_consts.specs.Expression.{Ex, ex_of}
use Rattle.mh_consts.specs.Names.{lookup}
use Rattle.mh_design.specs.declared.design.Design.{Design}
use Rattle.mh_design.specs.declared.design.Local.{Local}
use Rattle.mh_design.specs.Assigned.{is_assigned_first, all_below}
use Rattle.mh_design.specs.Depth.{block_is_within}
use Rattle.mh_design.specs.Numbering.{block_statements}
use Rattle.mh_design.specs.Statements.{statement_fits, block_exits_fit}
use Rattle.mh_design.specs.WellFormed.{is_name, is_instance, kind_fits, local_fits, starts_fit}
use Rattle.mh_lower.specs.Body.{Lines, lines, line_of}
use Rattle.mh_lower.specs.Generators.{Read, lowered, def_of}
use Rattle.mh_lower_laws.specs.Holds.{is_of, Holds, Extends}
use Rattle.mh_lower_laws.specs.Laws as lower
use Rattle.mh_lower_laws.proofs.GeneratorsFitLaws.{def_reads, read_to}
use Rattle.mh_lower_laws.proofs.GeneratorDepths.{def_deep}
use Rattle.mh_lower_laws.proofs.GeneratorNames.{def_named}
use Rattle.mh_world.specs.Statements.{Fn, Func, Block, Parameter, block, parameter_of, st_of}
use Rattle.mh_world.specs.World.{World, Bindings, Made, Broken, after}
use Rattle.mh_world.specs.Seen.{scope_of, inside}
use Rattle.mh_world.specs.Named.{bind_name}
use Rattle.mh_world.specs.Frozen.{freeze, freeze_mems}
use Rattle.mh_world_laws.specs.Sources.{IsDefinition}
use Rattle.mh_world_laws.specs.Fits.{Fits, arguments_fit, is_of_if_any, hold, made_fits}
use Rattle.mh_world_laws.specs.Laws.{Kept, Keeps, Anything}
use Rattle.mh_world_laws.proofs.SourceParts.{opened_def, definition_parts}
use Rattle.mh_world_laws.proofs.Keeping.{Gives, kept_on, chained}
use Rattle.mh_world_laws.proofs.Binding.{bind_keeps}
use Rattle.mh_world_laws.proofs.Seeing.{of_builtin, of_generator, lookup_of, scope_holds}
use Rattle.mh_world_laws.proofs.Reading.{freeze_keeps, read_keeps}
use Rattle.mh_elab.specs.Bodies.{body_lines}
use Rattle.mh_elab.specs.Definitions.{names_in_def, add_read, read_def, new_generator}
use Rattle.mh_elab.specs.Elaboration.{importable}
use Rattle.mh_elab.specs.Reads.{reads_of}
use Rattle.mh_elab.proofs.BodyLines.{lines_body}
use Rattle.mh_elab.proofs.Fitting.{GeneratorsKeep, ImportsFit}

-- ---- the names of MyHDL

abbrev imported : List (List ℕ × Builtin)
imported = (codes "block", builtin.Block) ∷ (codes "instance", builtin.Instance) ∷ (codes "instances", builtin.Instances)
    ∷ (codes "always", builtin.Always) ∷ (codes "always_comb", builtin.AlwaysComb) ∷ (codes "always_seq", builtin.AlwaysSeq)
    ∷ (codes "Signal", builtin.Signal) ∷ (codes "ResetSignal", builtin.ResetSignal) ∷ (codes "intbv", builtin.Intbv)
    ∷ (codes "modbv", builtin.Modbv) ∷ (codes "enum", builtin.Enum) ∷ (codes "concat", builtin.Concat)
    ∷ (codes "delay", builtin.Delay) ∷ (codes "now", builtin.Now) ∷ (codes "downrange", builtin.Downrange)
    ∷ (codes "StopSimulation", builtin.StopSimulation) ∷ []

abbrev entry : List ℕ × Builtin → List ℕ × Const
entry x = (x.0, c.Builtin x.1)

module _ (d : Design) where
  one_more : (t : List ℕ) (b : Builtin) (bs : Bindings) → is_name t ≡ true → arguments_fit d bs ≡ true → arguments_fit d ((t, c.Builtin b) ∷ bs) ≡ true
  one_more t b bs n h = and_from (is_name t && is_of d (c.Builtin b)) (arguments_fit d bs) (and_from (is_name t) (is_of d (c.Builtin b)) n (of_builtin d b)) h

  all_entries : (xs : List (List ℕ × Builtin)) → list_all (λ (x : List ℕ × Builtin). is_name x.0) xs ≡ true → arguments_fit d (map entry xs) ≡ true
  all_entries [] h = refl
  all_entries (x ∷ xs) h =
      let a = and_parts (is_name x.0) (list_all (λ (y : List ℕ × Builtin). is_name y.0) xs) h in
      one_more x.0 x.1 (map entry xs) a.0 (all_entries xs a.1)

  all_imports : arguments_fit d importable ≡ true
  all_imports = all_entries imported refl

  held_of : (bs : Bindings) → arguments_fit d bs ≡ true → hold d bs ≡ true
  held_of [] h = refl
  held_of (b ∷ bs) h =
      let a = and_parts (is_name b.0 && is_of d b.1) (arguments_fit d bs) h in
      and_from (is_of d b.1) (hold d bs) (and_parts (is_name b.0) (is_of d b.1) a.0).1 (held_of bs a.1)

  one_import : (t : List ℕ) (v : Const) → lookup importable t ≡ Some v → is_of d v ≡ true
  one_import t v e = sym (ap (is_of_if_any d) e) ∙ lookup_of d importable t (held_of importable all_imports)

pub imports_fit : ImportsFit
imports_fit = record { all = all_imports; one = one_import }

-- ---- what was read of a definition

abbrev made_of : List ℕ → ℕ → Option ℕ → Read → Made
made_of t l i r = record { name = t; line = l; inside = i; kind = r.kind; locals = r.locals; body = r.body }

locals_fit : (d : Design) (vs : List Local) → list_all (λ (v : Local). is_name v.name) vs ≡ true → list_all (λ (v : Local). kind_fits d v.kind) vs ≡ true → list_all (local_fits d) vs ≡ true
locals_fit d [] h k = refl
locals_fit d (v ∷ vs) h k =
    let p = and_parts (is_name v.name) (list_all (λ (x : Local). is_name x.name) vs) h in
    let q = and_parts (kind_fits d v.kind) (list_all (λ (x : Local). kind_fits d x.kind) vs) k in
    and_from (local_fits d v) (list_all (local_fits d) vs) (and_from (is_name v.name) (kind_fits d v.kind) p.0 q.0) (locals_fit d vs p.1 q.1)

made_well : (d : Design) (t : List ℕ) (l : ℕ) (i : Option ℕ) (r : Read) → is_name t ≡ true → list_all (λ (v : Local). is_name v.name) r.locals ≡ true → block_is_within r.body 200 ≡ true → lower.Fits d r → made_fits d (made_of t l i r) ≡ true
made_well d t l i r n ns deep f =
    and_from (is_name t && list_all (local_fits d) r.locals) _ (and_from (is_name t) (list_all (local_fits d) r.locals) n (locals_fit d r.locals ns f.locals))
    (and_from (starts_fit d r.kind) _ f.starts
    (and_from (block_is_within r.body 200 && list_all (statement_fits d r.locals (is_instance r.kind)) (block_statements r.body)) (block_exits_fit false r.body && all_below (length r.locals) (is_assigned_first r.body))
    (and_from (block_is_within r.body 200) (list_all (statement_fits d r.locals (is_instance r.kind)) (block_statements r.body)) deep f.statements)
    (and_from (block_exits_fit false r.body) (all_below (length r.locals) (is_assigned_first r.body)) f.exits f.assigned)))

def_keeps : (w : World) → Fits w → (ts : List (List ℕ)) (f : FuncDef) → def_names f ≡ true → def_depth f ≤ 199 → (t : List ℕ) (l : ℕ) (r : Read) (e : Design) → is_name t ≡ true → def_of (scope_of w ts) w.design f ≡ Ok (r, e) →
    Kept {A = Unit {0}} Anything w tt (freeze_mems (length w.design.mems) (add_read t l r e w))
def_keeps w h ts f names depth t l r e n q =
    let g = read_to (scope_of w ts) w.design (scope_holds w h ts) (def_of (scope_of w ts) w.design f) r e (def_reads (scope_of w ts) w.design (scope_holds w h ts) f) q in
    read_keeps w h ts e g.extends g.holds (made_of t l (inside w) r)
    (made_well e t l (inside w) r n (def_named (scope_of w ts) f w.design r e names q) (def_deep (scope_of w ts) f w.design r e 199 depth q) g.gives)

-- ---- a definition

abbrev line_in : Fn → ℕ
line_in (Func l t ms ps b) = l

abbrev marks_in : Fn → List Ex
marks_in (Func l t ms ps b) = ms

abbrev params_in : Fn → List Parameter
params_in (Func l t ms ps b) = ps

abbrev body_in : Fn → Block
body_in (Func l t ms ps b) = b

module _ (l : ℕ) (t : List ℕ) (ms : List Ex) (ps : List Parameter) (b : Block) (p : IsDefinition (Func l t ms ps b)) where
  reads_def : (s : Scope) (d : Design) → lowered s d ms (length ps) l (body_lines b) ≡ def_of s d p.definition
  reads_def s d =
      let e = p.is ∙ opened_def p.definition in
      let n : length ps ≡ length (out-FuncDef p.definition).params = ap length (ap params_in e) ∙ length-map (out-FuncDef p.definition).params parameter_of in
      let body : body_lines b ≡ lines (map line_of (out-FuncDef p.definition).body) = ap body_lines (ap body_in e) ∙ lines_body (out-FuncDef p.definition).body in
      ap (λ m. lowered s d m (length ps) l (body_lines b)) (ap marks_in e) ∙ ap (λ k. lowered s d (map ex_of (out-FuncDef p.definition).marks) k l (body_lines b)) n
      ∙ ap (λ k. lowered s d (map ex_of (out-FuncDef p.definition).marks) (length (out-FuncDef p.definition).params) k (body_lines b)) (ap line_in e)
      ∙ ap (lowered s d (map ex_of (out-FuncDef p.definition).marks) (length (out-FuncDef p.definition).params) (out-FuncDef p.definition).line) body

  module _ (w : World) (h : Fits w) where
    abbrev spoken : List (List ℕ)
    spoken = names_in_def ms (body_lines b)

    name_is : is_name t ≡ true
    name_is = (definition_parts l t ms ps b p).0

    read_by : (r : Result (Read × Design) Broken) → lowered (scope_of w spoken) w.design ms (length ps) l (body_lines b) ≡ r →
        Gives {A = Unit {0}} Anything w (after {B = Unit {0} × World} r (λ x. Ok (tt, freeze (reads_of (body_lines b)) (freeze_mems (length w.design.mems) (add_read t l x.0 x.1 w)))))
    read_by (Ok x) q =
        let k = def_keeps w h spoken p.definition p.names p.depth t l x.0 x.1 name_is (sym (reads_def (scope_of w spoken) w.design) ∙ q) in
        kept_on Anything Anything w (freeze_mems (length w.design.mems) (add_read t l x.0 x.1 w)) (freeze (reads_of (body_lines b)) (freeze_mems (length w.design.mems) (add_read t l x.0 x.1 w))) tt tt k
        (freeze_keeps (reads_of (body_lines b)) (freeze_mems (length w.design.mems) (add_read t l x.0 x.1 w)) k.fits)
    read_by (Err e) q = tt

    read_def_keeps : Gives Anything w (read_def l t ms ps (body_lines b) w)
    read_def_keeps = read_by (lowered (scope_of w spoken) w.design ms (length ps) l (body_lines b)) refl

    generator_keeps : Gives Anything w (new_generator l t ms ps b w)
    generator_keeps =
        chained Anything Anything w (read_def l t ms ps (body_lines b) w) (λ y. bind_name l t (c.Generator (length w.generators))) read_def_keeps
        (λ y u k. bind_keeps l t (c.Generator (length w.generators)) name_is u k.fits (of_generator u.design (length w.generators)))

pub generators_keep : GeneratorsKeep
generators_keep l t ms ps b p w h = generator_keeps l t ms ps b p w h
