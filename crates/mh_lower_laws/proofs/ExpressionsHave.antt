-- What is known of every expression that was read.
use Rattle.std.proofs.Common.{◌≡◌, ℕ, suc, ◌+◌, Bool, true, false, List, [], ◌∷◌, length, Option, Some, None, Result, Ok, Err, IfOk, refl, ap, sym, ◌∙◌, subst, arith, if◌then◌else◌}
use Rattle.std.specs.Prelude.{bytes_eq, codes, nat_eq}
use Rattle.std.specs.List.{list_all}
use Rattle.std.proofs.lemmas.Bool.{and_parts, eqb-true}
use Rattle.mh_pytree.specs.declared.expression.Operator.TheVariants as op
use Rattle.mh_text.specs.declared.code.Code.{Code}
use Rattle.mh_text.specs.declared.code.Code.TheVariants.{E2NotElaborable, E3BadArguments, E10KindClash}
use Rattle.mh_consts.specs.declared.kinds.Builtin.{Builtin}
use Rattle.mh_consts.specs.declared.kinds.Builtin.TheVariants as builtin
use Rattle.mh_consts.specs.declared.kinds.Const.{Const, out-Const}
use Rattle.mh_consts.specs.declared.kinds.Const.TheOpen.{Const-F}
use Rattle.mh_consts.specs.declared.scope.Scope.{Scope}
use Rattle.mh_consts.specs.Expression as x
use Rattle.mh_consts.specs.Expression.{Ex, Exs, Head, Keys}
use Rattle.mh_consts.specs.Constant.{value, is_plain}
use Rattle.mh_consts.specs.Names.{lookup}
use Rattle.mh_consts.specs.Outcome.{after}
use Rattle.mh_design.specs.declared.design.Design.{Design}
use Rattle.mh_design.specs.declared.design.Local.{Local as Variable}
use Rattle.mh_design.specs.declared.expression.GExpr.TheVariants as e
use Rattle.mh_exprs.specs.declared.locals.Locals.{Locals}
use Rattle.mh_exprs.specs.declared.names.Callee.{Callee}
use Rattle.mh_exprs.specs.declared.names.Callee.TheVariants as callee
use Rattle.mh_exprs.specs.declared.names.Form.{Form}
use Rattle.mh_exprs.specs.declared.names.Plan.{Plan}
use Rattle.mh_exprs.specs.declared.names.Plan.TheVariants as plan
use Rattle.mh_exprs.specs.declared.names.Form.TheVariants as form
use Rattle.mh_exprs.specs.declared.typed.Typed.{Typed}
use Rattle.mh_exprs.specs.declared.typed.Row.{Row}
use Rattle.mh_exprs.specs.declared.typed.Work.{Work}
use Rattle.mh_exprs.specs.Calls.{Collection, Listed, Tupled, Neither, callee_of, collection_step, collection_held, outside_by, outside_in, collection_of, form_of, is_maker, once, made, is_row, joins, now, plan_named, plan_of}
use Rattle.mh_exprs.specs.Constant.{is_local, folds, is_constant}
use Rattle.mh_exprs.specs.Expression.{folded, folding, on_one, on_two, on_three, indexed, is_wide, without_arguments, method, misfit, joined_row, called, read, operation, first, second, row, all}
use Rattle.mh_exprs.specs.Leaves.{integer, leaf, name, element, tuple_element}
use Rattle.mh_exprs.specs.Operations.{signed, negated, operated, bit, slice, zero_end, attribute, length as width_of, to_integer, to_truth, unbounded, empty_row, joined, concatenated, read_signed}
use Rattle.mh_exprs.specs.Step.{Step, pure, refuse, just, seeing, chain}
use Rattle.mh_lower_laws.specs.Holds.{is_of, Holds, Extends}
use Rattle.mh_lower_laws.specs.Laws.{Known}
use Rattle.mh_lower_laws.proofs.Keys.{count, head_keys_fit, keys_fit, all_keys_fit}
use Rattle.mh_lower_laws.proofs.Growth.{extends_self, extends_on}
use Rattle.mh_lower_laws.proofs.OfDesign.{step_of}
use Rattle.mh_lower_laws.proofs.ScopeValues.{opened, name_of, value_fine}
use Rattle.mh_lower_laws.proofs.Having.{Has, has_integer, has_later, known_later}
use Rattle.mh_lower_laws.proofs.LeavesHave.{leaf_has, name_leads, element_leads, tuple_leads}
use Rattle.mh_lower_laws.proofs.OperationsHave.{signed_has, negated_has, operated_has, bit_has, slice_has, attribute_has, length_has, to_integer_has, to_truth_has, unbounded_has, read_signed_has, now_has, HasRow, concatenated_has, joined_has, row_later}
use Rattle.mh_lower_laws.proofs.Stepping.{Leads, leads_pure, leads_refuse, leads_just, leads_if, leads_after, ok_after}

-- ---- what was folded, and what is indexed

module _ (s : Scope) (locals : Locals) (w : Work) (ls : List Variable) where
  -- from this design the step gives what is known of an expression
  abbrev pub Gives : Design → Step Typed → Type 0
  Gives d p = Leads s (λ t f. Has w ls f t) d (p d)

  no : (d : Design) (code : Code) → Gives d (refuse code)
  no d code = leads_refuse s (λ t f. Has w ls f t) d code

  folded_leads : (d : Design) (wide : Bool) (a : Ex) → Holds s d → is_plain s a ≡ true → Gives d (folded s wide a)
  folded_leads d wide a h p = by_value (value s a) (value_fine d s h.names h.lists a p)
    where
      by_value : (r : Result Const Code) → IfOk r (λ v. is_of d v ≡ true) → Leads s (λ t f. Has w ls f t) d (chain (just r) (λ v. seeing (leaf wide v)) d)
      by_value (Ok v) q = leads_just s (λ t f. Has w ls f t) d h (leaf wide v d) (leaf_has s w ls d h wide v q)
      by_value (Err code) q = leads_refuse s (λ t f. Has w ls f t) d code

  folding_leads : (d : Design) (wide : Bool) (a : Ex) (p : Step Typed) → Holds s d → Gives d p → Gives d (folding s locals wide a p)
  folding_leads d wide a p h g =
      leads_if s (λ t f. Has w ls f t) d (folds s locals a) (folded s wide a) p (λ q. folded_leads d wide a h (and_parts (is_plain s a) (is_constant s locals a) q).0) (λ q. g)

  one_leads : (d : Design) (p : Step Typed) (f : Typed → Result Typed Code) → Gives d p → ((t : Typed) (g : Design) → Has w ls g t → IfOk (f t) (λ u. Has w ls g u)) → Gives d (on_one p f)
  one_leads d p f l k = leads_after s (λ t g. Has w ls g t) (λ t g. Has w ls g t) d (p d) (λ t. just (f t)) l (λ t g x h i. leads_just s (λ u g. Has w ls g u) g h (f t) (k t g i))

  -- the second part is read from the design after the first
  two_leads : (d : Design) (p q : Step Typed) (f : Typed → Typed → Result Typed Code) → Gives d p → ((g : Design) → Holds s g → Extends d g → Gives g q) →
      ((t u : Typed) (g : Design) → Has w ls g t → Has w ls g u → IfOk (f t u) (λ v. Has w ls g v)) → Gives d (on_two p q f)
  two_leads d p q f l m k =
      leads_after s (λ t g. Has w ls g t) (λ t g. Has w ls g t) d (p d) (λ t. chain q (λ u. just (f t u))) l
      (λ t g x h i. leads_after s (λ t g. Has w ls g t) (λ t g. Has w ls g t) g (q g) (λ u. just (f t u)) (m g h x)
      (λ u g' x' h' i'. leads_just s (λ v g. Has w ls g v) g' h' (f t u) (k t u g' (has_later w ls g g' x' t i) i')))

  three_leads : (d : Design) (p q r : Step Typed) (f : Typed → Typed → Typed → Result Typed Code) → Gives d p → ((g : Design) → Holds s g → Extends d g → Gives g q) → ((g : Design) → Holds s g → Extends d g → Gives g r) →
      ((t u v : Typed) (g : Design) → Has w ls g t → Has w ls g u → Has w ls g v → IfOk (f t u v) (λ z. Has w ls g z)) → Gives d (on_three p q r f)
  three_leads d p q r f l m n k =
      leads_after s (λ t g. Has w ls g t) (λ t g. Has w ls g t) d (p d) (λ t. chain q (λ u. chain r (λ v. just (f t u v)))) l
      (λ t g x h i. leads_after s (λ t g. Has w ls g t) (λ t g. Has w ls g t) g (q g) (λ u. chain r (λ v. just (f t u v))) (m g h x)
      (λ u g' x' h' i'. leads_after s (λ t g. Has w ls g t) (λ t g. Has w ls g t) g' (r g') (λ v. just (f t u v)) (n g' h' (extends_on d g g' x x'))
      (λ v g'' x'' h'' i''. leads_just s (λ z g. Has w ls g z) g'' h'' (f t u v) (k t u v g'' (has_later w ls g g'' (extends_on g g' g'' x' x'') t i) (has_later w ls g' g'' x'' u i') i''))))

  zero_leads : (d : Design) → Holds s d → Gives d (pure zero_end)
  zero_leads d h = leads_pure s (λ t f. Has w ls f t) d h zero_end (has_integer w ls d _)

  -- what a name outside is bound to
  outside_fine : (d : Design) → Holds s d → (o : Option (List ℕ)) (v : Const) → outside_by s locals o ≡ Some v → is_of d v ≡ true
  outside_fine d h None v q = absurd (cc)
  outside_fine d h (Some t) v q = by_local (is_local locals t) q
    where
      by_local : (b : Bool) → (if b then None else lookup s.names t) ≡ Some v → is_of d v ≡ true
      by_local true r = absurd (cc)
      by_local false r = name_of d s h.names h.lists t v r

  -- a tuple's items are of the design
  TupleFine : Design → Collection → Type 0
  TupleFine d c = (cs : List Const) → c ≡ Tupled cs → list_all (is_of d) cs ≡ true

  step_fine : (d : Design) (x : Const-F Const) → step_of d x ≡ true → (cs : List Const) → collection_step x ≡ Tupled cs → list_all (is_of d) cs ≡ true
  step_fine d Const-F.None h cs q = absurd (cc)
  step_fine d (Const-F.Int n) h cs q = absurd (cc)
  step_fine d (Const-F.Truth b) h cs q = absurd (cc)
  step_fine d (Const-F.Str t) h cs q = absurd (cc)
  step_fine d (Const-F.Delay n) h cs q = absurd (cc)
  step_fine d (Const-F.EnumType n names) h cs q = absurd (cc)
  step_fine d (Const-F.Item n place) h cs q = absurd (cc)
  step_fine d (Const-F.Bounded v b) h cs q = absurd (cc)
  step_fine d (Const-F.Signal n k) h cs q = absurd (cc)
  step_fine d (Const-F.Edge n rising) h cs q = absurd (cc)
  step_fine d (Const-F.Range a b step) h cs q = absurd (cc)
  step_fine d (Const-F.List n) h cs q = absurd (cc)
  step_fine d (Const-F.Tuple items) h cs q = let same : items ≡ cs = cc in ap (list_all (is_of d)) (sym same) ∙ h
  step_fine d (Const-F.Function n) h cs q = absurd (cc)
  step_fine d (Const-F.Instance n) h cs q = absurd (cc)
  step_fine d (Const-F.Generator n) h cs q = absurd (cc)
  step_fine d (Const-F.Builtin b) h cs q = absurd (cc)

  pub collection_fine : (d : Design) → Holds s d → (a : Ex) (cs : List Const) → collection_of s locals a ≡ Tupled cs → list_all (is_of d) cs ≡ true
  collection_fine d h a cs q = by_value (outside_in s locals a) refl q
    where
      by_value : (o : Option Const) → outside_by s locals (x.name_in a) ≡ o → collection_held o ≡ Tupled cs → list_all (is_of d) cs ≡ true
      by_value None r f = absurd (cc)
      by_value (Some v) r f = step_fine d (out-Const v) (opened d v (outside_fine d h (x.name_in a) v r)) cs f

  indexed_leads : (d : Design) (c : Collection) (p q : Step Typed) → Holds s d → ((cs : List Const) → c ≡ Tupled cs → (f : Design) → Holds s f → list_all (is_of f) cs ≡ true) →
      Gives d p → ((g : Design) → Holds s g → Extends d g → Gives g q) → Gives d (indexed s c p q)
  indexed_leads d (Listed n) p q h k l m =
      leads_after s (λ t f. Has w ls f t) (λ t f. Has w ls f t) d (q d) (λ t. element s n t) (m d h (extends_self d)) (λ t g x later i. element_leads s w ls t g n later i)
  indexed_leads d (Tupled cs) p q h k l m =
      leads_after s (λ t f. Has w ls f t) (λ t f. Has w ls f t) d (q d) (λ t. tuple_element cs t) (m d h (extends_self d)) (λ t g x later i. tuple_leads s w ls g later t i cs (k cs refl g later))
  indexed_leads d Neither p q h k l m = two_leads d p q bit l m (λ t u g i j. bit_has w ls g t u i j)

  -- ---- calls

  -- all arguments are read for nothing
  abbrev pub Reads : Design → Step (Unit {0}) → Type 0
  Reads d p = Leads s (λ u f. Unit {0}) d (p d)

  misfit_leads : (d : Design) (p : Step (Unit {0})) → Reads d p → Gives d (misfit p)
  misfit_leads d p l = leads_after s (λ u f. Unit {0}) (λ t f. Has w ls f t) d (p d) (λ u. refuse E3BadArguments) l (λ u g x h i. no g E3BadArguments)

  row_leads : (d : Design) (p : Step Row) → ((n : ℕ) × Leads s (λ r f. HasRow w ls f (suc n) r) d (p d)) → Gives d (joined_row p)
  row_leads d p k =
      leads_after s (λ r f. HasRow w ls f (suc k.0) r) (λ t f. Has w ls f t) d (p d) (λ r. pure (concatenated r)) k.1 (λ r g x h i. leads_pure s (λ t f. Has w ls f t) g h (concatenated r) (concatenated_has w ls g k.0 r i))

  -- what a plan asks of the parts of a row
  abbrev RowOf : Plan → Design → Step Row → Type 0
  RowOf c d p = c ≡ plan.Row → (n : ℕ) × Leads s (λ r f. HasRow w ls f (suc n) r) d (p d)

  called_leads : (d : Design) (c : Plan) (wide narrow : Step Typed) (p : Step Row) (q : Step (Unit {0})) → Holds s d → Gives d wide → Gives d narrow → RowOf c d p → Reads d q → Gives d (called c wide narrow p q)
  called_leads d (plan.Refused code) wide narrow p q h a b r m = no d code
  called_leads d plan.Now wide narrow p q h a b r m = leads_pure s (λ t f. Has w ls f t) d h (integer e.Now) (now_has w ls d)
  called_leads d plan.Length wide narrow p q h a b r m = one_leads d wide width_of a (λ t f i. length_has w ls f t)
  called_leads d plan.Integer wide narrow p q h a b r m = one_leads d narrow to_integer b (λ t f i. to_integer_has w ls f t i)
  called_leads d plan.Truth wide narrow p q h a b r m = one_leads d narrow to_truth b (λ t f i. to_truth_has w ls f t i)
  called_leads d plan.Unbounded wide narrow p q h a b r m = one_leads d narrow unbounded b (λ t f i. unbounded_has w ls f t i)
  called_leads d plan.Row wide narrow p q h a b r m = row_leads d p (r refl)
  called_leads d plan.Misfit wide narrow p q h a b r m = misfit_leads d q m

  without_has : (d : Design) (keys : Keys) (t : Typed) → Has w ls d t → IfOk (without_arguments keys t) (λ u. Has w ls d u)
  without_has d [] t h = h
  without_has d (key ∷ keys) t h = tt

  method_has : (d : Design) (name : List ℕ) (keys : Keys) (t : Typed) → Has w ls d t → IfOk (method name keys t) (λ u. Has w ls d u)
  method_has d name keys t h = by_name (bytes_eq name (codes "signed"))
    where
      by_name : (b : Bool) → IfOk (if b then after (read_signed t) (without_arguments keys) else Err E10KindClash) (λ u. Has w ls d u)
      by_name true = ok_after (λ u. Has w ls d u) (λ u. Has w ls d u) (read_signed t) (without_arguments keys) (read_signed_has w ls d t h) (λ u i. without_has d keys u i)
      by_name false = tt

  -- ---- expressions

  -- a row is read where each argument stands by position
  once_row : (c : Plan) (f : Form) → once c f ≡ plan.Row → c ≡ plan.Row
  once_row c form.Single q = q
  once_row c form.LowHigh q = absurd (cc)
  once_row c form.HighLow q = absurd (cc)
  once_row c form.Other q = absurd (cc)

  made_row : (f : Form) → made f ≡ plan.Row → ⊥
  made_row form.Single q = cc
  made_row form.LowHigh q = cc
  made_row form.HighLow q = cc
  made_row form.Other q = cc

  joins_row : (b : Bool) → joins b ≡ plan.Row → b ≡ true
  joins_row true q = refl
  joins_row false q = absurd (cc)

  now_row : (keys : Keys) → now keys ≡ plan.Row → ⊥
  now_row [] q = cc
  now_row (key ∷ keys) q = cc

  named_row : (b : Builtin) (keys : Keys) → plan_named b keys ≡ plan.Row → is_row keys ≡ true
  named_row builtin.Len keys q = let c : plan.Length ≡ plan.Row = once_row plan.Length (form_of keys) q in absurd (cc)
  named_row builtin.Int keys q = let c : plan.Integer ≡ plan.Row = once_row plan.Integer (form_of keys) q in absurd (cc)
  named_row builtin.Bool keys q = let c : plan.Truth ≡ plan.Row = once_row plan.Truth (form_of keys) q in absurd (cc)
  named_row builtin.Intbv keys q = absurd (made_row (form_of keys) q)
  named_row builtin.Modbv keys q = absurd (made_row (form_of keys) q)
  named_row builtin.Concat keys q = joins_row (is_row keys) q
  named_row builtin.Now keys q = absurd (now_row keys q)
  named_row b keys q = absurd (cc)

  plan_row : (c : Callee) (keys : Keys) → plan_of c keys ≡ plan.Row → is_row keys ≡ true
  plan_row (callee.Refused code) keys q = absurd (cc)
  plan_row (callee.Known b) keys q = named_row b keys q

  -- keys of a row that has arguments
  some_keys : (keys : Keys) (n : ℕ) → is_row keys ≡ true → nat_eq (length keys) n ≡ true → (m : ℕ) × (n ≡ suc m)
  some_keys [] n h k = absurd (cc)
  some_keys (key ∷ keys) n h k = (length keys, sym (eqb-true (suc (length keys)) n k))

  row_of : (keys : Keys) (xs : Exs) (d : Design) → nat_eq (length keys) (count xs) ≡ true → is_row keys ≡ true → Leads s (λ r f. HasRow w ls f (0 + count xs) r) d (row s locals w empty_row xs d) →
      (n : ℕ) × Leads s (λ r f. HasRow w ls f (suc n) r) d (row s locals w empty_row xs d)
  row_of keys xs d c q l =
      let m = some_keys keys (count xs) q c in
      let e : 0 + count xs ≡ suc m.0 = omega (arith, m.1) in
      (m.0, subst (λ n. Leads s (λ r f. HasRow w ls f n r) d (row s locals w empty_row xs d)) e l)

  row_next : (n m : ℕ) (r : Result Row Code) (f : Row → Step Row) (g : Design) → Holds s g → IfOk r (HasRow w ls g (suc n)) → ((q : Row) → HasRow w ls g (suc n) q → Leads s (λ o h. HasRow w ls h (suc n + m) o) g (f q g)) →
      Leads s (λ o h. HasRow w ls h (n + suc m) o) g (chain (just r) f g)
  row_next n m (Ok q) f g h i k =
      let e : suc n + m ≡ n + suc m = omega arith in
      subst (λ z. Leads s (λ o h. HasRow w ls h z o) g (f q g)) e (k q i)
  row_next n m (Err code) f g h i k = leads_refuse s (λ o h. HasRow w ls h (n + suc m) o) g code

  mutual
    pub reads : (wide : Bool) (a : Ex) (d : Design) → keys_fit a ≡ true → Holds s d → Known w ls d → Gives d (read s locals w wide a)
    reads wide (x.Number n) d f h k = folding_leads d wide (x.Number n) (refuse E10KindClash) h (no d E10KindClash)
    reads wide (x.Str bytes) d f h k = folding_leads d wide (x.Str bytes) (refuse E10KindClash) h (no d E10KindClash)
    reads wide (x.Truth b) d f h k = folding_leads d wide (x.Truth b) (refuse E10KindClash) h (no d E10KindClash)
    reads wide x.Nothing d f h k = folding_leads d wide x.Nothing (refuse E10KindClash) h (no d E10KindClash)
    reads wide (x.Name t) d f h k = folding_leads d wide (x.Name t) (name s locals w t) h (name_leads s w ls d h locals k t)
    reads wide (x.And a b) d f h k =
        let p = and_parts (keys_fit a) (keys_fit b) f in
        folding_leads d wide (x.And a b) (on_two (read s locals w false a) (read s locals w false b) (operated op.And)) h
        (two_leads d (read s locals w false a) (read s locals w false b) (operated op.And) (reads false a d p.0 h k) (λ g i x. reads false b g p.1 i (known_later w ls d g x k)) (λ t u g i j. operated_has w ls g op.And t u i j))
    reads wide (x.Or a b) d f h k =
        let p = and_parts (keys_fit a) (keys_fit b) f in
        folding_leads d wide (x.Or a b) (on_two (read s locals w false a) (read s locals w false b) (operated op.Or)) h
        (two_leads d (read s locals w false a) (read s locals w false b) (operated op.Or) (reads false a d p.0 h k) (λ g i x. reads false b g p.1 i (known_later w ls d g x k)) (λ t u g i j. operated_has w ls g op.Or t u i j))
    reads wide (x.Op o xs) d f h k =
        let p = and_parts (head_keys_fit o xs) (all_keys_fit xs) f in
        folding_leads d wide (x.Op o xs) (operation s locals w o xs) h (operations o xs d p.0 p.1 h k)
    reads wide (x.Collect item t over) d f h k = folding_leads d wide (x.Collect item t over) (refuse E10KindClash) h (no d E10KindClash)

    operations : (o : Head) (xs : Exs) (d : Design) → head_keys_fit o xs ≡ true → all_keys_fit xs ≡ true → Holds s d → Known w ls d → Gives d (operation s locals w o xs)
    operations (x.Apply sign) (x.More a xs) d c f h k =
        let p = and_parts (keys_fit a) (all_keys_fit xs) f in
        one_leads d (read s locals w (is_wide sign) a) (signed sign) (reads (is_wide sign) a d p.0 h k) (λ t g i. signed_has w ls g sign t i)
    operations (x.Apply sign) x.NoMore d c f h k = no d E10KindClash
    operations x.Negation (x.More a xs) d c f h k =
        let p = and_parts (keys_fit a) (all_keys_fit xs) f in
        one_leads d (read s locals w false a) negated (reads false a d p.0 h k) (λ t g i. negated_has w ls g t i)
    operations x.Negation x.NoMore d c f h k = no d E10KindClash
    operations (x.Both o) (x.More a xs) d c f h k =
        let p = and_parts (keys_fit a) (all_keys_fit xs) f in
        two_leads d (read s locals w false a) (first s locals w false xs) (operated o) (reads false a d p.0 h k) (λ g i x. firsts false xs g p.1 i (known_later w ls d g x k)) (λ t u g i j. operated_has w ls g o t u i j)
    operations (x.Both o) x.NoMore d c f h k = no d E10KindClash
    operations (x.Attribute name) (x.More a xs) d c f h k =
        let p = and_parts (keys_fit a) (all_keys_fit xs) f in
        one_leads d (read s locals w true a) (attribute name) (reads true a d p.0 h k) (λ t g i. attribute_has w ls g name t)
    operations (x.Attribute name) x.NoMore d c f h k = no d E10KindClash
    operations x.Index (x.More a xs) d c f h k =
        let p = and_parts (keys_fit a) (all_keys_fit xs) f in
        indexed_leads d (collection_of s locals a) (read s locals w true a) (first s locals w false xs) h (λ cs q g i. collection_fine g i a cs q) (reads true a d p.0 h k) (λ g i x. firsts false xs g p.1 i (known_later w ls d g x k))
    operations x.Index x.NoMore d c f h k = no d E10KindClash
    operations x.Slice (x.More a xs) d c f h k =
        let p = and_parts (keys_fit a) (all_keys_fit xs) f in
        three_leads d (read s locals w true a) (first s locals w false xs) (second s locals w xs) slice (reads true a d p.0 h k) (λ g i x. firsts false xs g p.1 i (known_later w ls d g x k)) (λ g i x. seconds xs g p.1 i (known_later w ls d g x k))
        (λ t u v g i j l. slice_has w ls g t u v i j l)
    operations x.Slice x.NoMore d c f h k = no d E10KindClash
    operations x.SliceFrom (x.More a xs) d c f h k =
        let p = and_parts (keys_fit a) (all_keys_fit xs) f in
        three_leads d (read s locals w true a) (first s locals w false xs) (pure zero_end) slice (reads true a d p.0 h k) (λ g i x. firsts false xs g p.1 i (known_later w ls d g x k)) (λ g i x. zero_leads g i)
        (λ t u v g i j l. slice_has w ls g t u v i j l)
    operations x.SliceFrom x.NoMore d c f h k = no d E10KindClash
    operations (x.Resize maker) (x.More a xs) d c f h k =
        let p = and_parts (keys_fit a) (all_keys_fit xs) f in
        leads_if s (λ t f. Has w ls f t) d (is_maker (callee_of s locals (x.Name maker))) (refuse E2NotElaborable) (on_three (read s locals w true a) (first s locals w false xs) (pure zero_end) slice) (λ q. no d E2NotElaborable)
        (λ q. three_leads d (read s locals w true a) (first s locals w false xs) (pure zero_end) slice (reads true a d p.0 h k) (λ g i x. firsts false xs g p.1 i (known_later w ls d g x k)) (λ g i x. zero_leads g i)
        (λ t u v g i j l. slice_has w ls g t u v i j l))
    operations (x.Resize maker) x.NoMore d c f h k = no d E10KindClash
    operations x.Whole xs d c f h k = no d E2NotElaborable
    operations (x.Call keys) (x.More a xs) d c f h k =
        let p = and_parts (keys_fit a) (all_keys_fit xs) f in
        called_leads d (plan_of (callee_of s locals a) keys) (first s locals w true xs) (first s locals w false xs) (row s locals w empty_row xs) (all s locals w xs) h (firsts true xs d p.1 h k) (firsts false xs d p.1 h k)
        (λ q. row_of keys xs d c (plan_row (callee_of s locals a) keys q) (rows xs 0 empty_row d p.1 h k (record { parts = tt; count = refl }))) (alls xs d p.1 h k)
    operations (x.Call keys) x.NoMore d c f h k = no d E10KindClash
    operations (x.Method name keys) (x.More a xs) d c f h k =
        let p = and_parts (keys_fit a) (all_keys_fit xs) f in
        one_leads d (read s locals w true a) (method name keys) (reads true a d p.0 h k) (λ t g i. method_has g name keys t i)
    operations (x.Method name keys) x.NoMore d c f h k = no d E10KindClash
    operations x.TupleOf xs d c f h k = no d E10KindClash
    operations x.ListOf xs d c f h k = no d E10KindClash

    firsts : (wide : Bool) (xs : Exs) (d : Design) → all_keys_fit xs ≡ true → Holds s d → Known w ls d → Gives d (first s locals w wide xs)
    firsts wide x.NoMore d f h k = no d E10KindClash
    firsts wide (x.More a xs) d f h k = reads wide a d (and_parts (keys_fit a) (all_keys_fit xs) f).0 h k

    seconds : (xs : Exs) (d : Design) → all_keys_fit xs ≡ true → Holds s d → Known w ls d → Gives d (second s locals w xs)
    seconds x.NoMore d f h k = no d E10KindClash
    seconds (x.More a xs) d f h k = firsts false xs d (and_parts (keys_fit a) (all_keys_fit xs) f).1 h k

    rows : (xs : Exs) (n : ℕ) (r : Row) (d : Design) → all_keys_fit xs ≡ true → Holds s d → Known w ls d → HasRow w ls d n r → Leads s (λ r f. HasRow w ls f (n + count xs) r) d (row s locals w r xs d)
    rows x.NoMore n r d f h k i = leads_pure s (λ r f. HasRow w ls f (n + 0) r) d h r (subst (λ m. HasRow w ls d m r) (omega arith) i)
    rows (x.More a xs) n r d f h k i =
        let p = and_parts (keys_fit a) (all_keys_fit xs) f in
        leads_after s (λ t f. Has w ls f t) (λ r f. HasRow w ls f (n + suc (count xs)) r) d (read s locals w true a d) (λ t. chain (just (joined r t)) (λ q. row s locals w q xs)) (reads true a d p.0 h k)
        (λ t g x later j. row_next n (count xs) (joined r t) (λ q. row s locals w q xs) g later (joined_has w ls g n r t (row_later w ls d g x n r i) j) (λ q o. rows xs (suc n) q g p.1 later (known_later w ls d g x k) o))

    pub alls : (xs : Exs) (d : Design) → all_keys_fit xs ≡ true → Holds s d → Known w ls d → Reads d (all s locals w xs)
    alls x.NoMore d f h k = leads_pure s (λ u f. Unit {0}) d h tt tt
    alls (x.More a xs) d f h k =
        let p = and_parts (keys_fit a) (all_keys_fit xs) f in
        leads_after s (λ t f. Has w ls f t) (λ u f. Unit {0}) d (read s locals w false a d) (λ t. all s locals w xs) (reads false a d p.0 h k) (λ t g x i j. alls xs g p.1 i (known_later w ls d g x k))
