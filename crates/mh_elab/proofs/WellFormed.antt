-- The designs of a source are well formed.
use Rattle.std.proofs.Common.{◌≡◌, ◌≤◌, ℕ, Bool, true, List, [], ◌∷◌, map, Result, Ok, Err, refl, ap, sym, ◌∙◌}
use Rattle.std.specs.Prelude.{IfOk}
use Rattle.std.specs.List.{list_all}
use Rattle.std.proofs.lemmas.List.Folds.{list_all-map}
use Rattle.mh_text.specs.declared.refusal.Refusal.{Refusal}
use Rattle.mh_text.specs.declared.refusal.Refusal.TheVariants as refusal
use Rattle.mh_pytree.specs.declared.statement.PyStmt.{PyStmt}
use Rattle.mh_pytree.specs.Depth.{text_depth}
use Rattle.mh_pytree.specs.Names.{are_names}
use Rattle.mh_consts.specs.Operators.{operated}
use Rattle.mh_design.specs.declared.design.Design.{Design}
use Rattle.mh_design.specs.WellFormed.{is_well_formed}
use Rattle.mh_lower_laws.proofs.Basics.{all_same}
use Rattle.mh_lower_laws.proofs.ScopeValues.{operated_fine}
use Rattle.mh_world.specs.Statements.{Block, block, st_of}
use Rattle.mh_world.specs.World.{World, Broken, after}
use Rattle.mh_plans.specs.declared.designs.Request.{Request}
use Rattle.mh_plans.specs.declared.designs.Elaborated.{Elaborated}
use Rattle.mh_plans.specs.Planned.{plan_of}
use Rattle.mh_plans.specs.Plans.{Plan, plans}
use Rattle.mh_world_laws.specs.Sources.{IsSource}
use Rattle.mh_world_laws.specs.Fits.{Fits}
use Rattle.mh_world_laws.specs.Laws.{IsOf}
use Rattle.mh_world_laws.proofs.SourceParts.{block_parts, definition_parts}
use Rattle.mh_world_laws.proofs.Designs.{later_self, later_on, value_stays}
use Rattle.mh_world_laws.proofs.Keeping.{seen}
use Rattle.mh_world_laws.proofs.Binding.{bind_keeps, push_keeps, pop_keeps}
use Rattle.mh_world_laws.proofs.Seeing.{plain_are, name_keeps, begins_fits, counted_keeps}
use Rattle.mh_world_laws.proofs.Listing.{new_keeps, set_keeps, get_keeps, item_keeps, items_keep}
use Rattle.mh_world_laws.proofs.Operating.{operate_keeps, operate_in_keeps, builtin_keeps}
use Rattle.mh_world_laws.proofs.Calling.{marked_keeps, function_keeps, callee_keeps, enter_keeps, returned_keeps, leave_keeps}
use Rattle.mh_plans_laws.specs.Draws.{plan_is_well_formed}
use Rattle.mh_plans_laws.proofs.Planning.{all_fit, plan_is_design}
use Rattle.mh_elab.specs.Answer.{elaborated, Answers, are_well_formed}
use Rattle.mh_elab.specs.Elaboration.{executed}
use Rattle.mh_elab.proofs.Fitting.{Laws}
use Rattle.mh_elab.proofs.Generating.{imports_fit, generators_keep}
use Rattle.mh_elab.proofs.Keeping.{source_fits}

the_laws : Laws
the_laws = record {
  generators = generators_keep;
  blocks = block_parts;
  definitions = definition_parts;
  values = value_stays;
  plain = plain_are;
  imports = imports_fit;
  same = later_self;
  on = later_on;
  begins = begins_fits;
  counted = counted_keeps;
  names = λ l t w h. name_keeps w h l t;
  bindings = bind_keeps;
  pushes = push_keeps;
  pops = pop_keeps;
  new_lists = λ l vs w h q. new_keeps w h l vs q;
  set_items = λ l base at v w h q. set_keeps w h l base at v q;
  get_items = λ l base at w h q. get_keeps w h l base at q;
  items = λ l v i w h q. item_keeps w h l v i q;
  all_items = λ l v w h q. items_keep w h l v q;
  operated = λ l op a b w h q. seen IsOf l w (operated op a b) h (operated_fine w.design op a b);
  operations = λ l x vs w h q. operate_keeps w h l x vs q;
  operations_in = λ l e vs w h q. operate_in_keeps w h l e vs q;
  builtins = λ l b keys vs w h q. builtin_keeps w h l b keys vs q;
  marks = λ l ms w h. marked_keeps w h l ms;
  functions = λ l t is_block ps vs b n p s w h q. function_keeps w h l t is_block ps vs b n p s q;
  callees = λ l n keys vs w h q. callee_keeps w h l n keys vs q;
  enters = λ x w h f. enter_keeps w h x f;
  returns = λ l v w h q. returned_keeps w h l v q;
  leaves = λ l x f w h q. leave_keeps w h l x f q;
}

planned_fit : (r : Result World Broken) (ds : List Design) (rs : List Request) → IfOk r Fits → after r plans ≡ Ok (map plan_of ds, rs) → list_all plan_is_well_formed (map plan_of ds) ≡ true
planned_fit (Ok w) ds rs h e = all_fit w h (map plan_of ds) rs e
planned_fit (Err b) ds rs h e = absurd (cc)

-- the designs of a source that was read are well formed
pub designs_fit : (stmts : List PyStmt) → text_depth stmts ≤ 200 → are_names stmts ≡ true → (result : Result Elaborated Refusal) → Answers (elaborated stmts) result → IfOk result (λ x. are_well_formed x.tops ≡ true)
designs_fit stmts depth names (Ok x) q =
    let source : IsSource (block (map st_of stmts)) = record { statements = stmts; is = refl; depth = depth; names = names } in
    let fit = planned_fit (executed 1000000 64 (block (map st_of stmts))) x.tops x.requests (source_fits the_laws 1000000 64 (block (map st_of stmts)) source) q in
    all_same (λ d. plan_is_well_formed (plan_of d)) is_well_formed x.tops (λ d. sym (plan_is_design d)) (sym (list_all-map plan_is_well_formed plan_of x.tops) ∙ fit)
designs_fit stmts depth names (Err (refusal.At code line ns)) q = tt
designs_fit stmts depth names (Err refusal.Memory) q = tt
