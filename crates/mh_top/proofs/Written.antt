-- Facts on texts that loops write.
use Rattle.std.proofs.Common.{ℕ, List, [], ◌∷◌, ◌++◌, ◌≡◌, ◌+◌, ◌<◌, length, map, take, drop, get_or, refl, sym, ap, ◌∙◌, append_assoc, append-nil, arith, length-drop}
use Rattle.std.specs.List.{flat_map}
use Rattle.mh_gate.specs.declared.design.Design.{Design}
use Rattle.mh_top.specs.Emission.{port_of}
use Rattle.mh_top.specs.Pieces.{name_in}
use Rattle.mh_top.specs.VerilogText.{section, Port}
use Rattle.std.proofs.lemmas.List.{take_more, take-append-drop}
use Rattle.std.proofs.lemmas.Grind.{flat_map-append}

-- one piece after another
pub appended : (old a b mid new : List ℕ) → mid ≡ old ++ a → new ≡ mid ++ b → new ≡ old ++ (a ++ b)
appended old a b mid new first second = second ∙ ap (λ (text : List ℕ). text ++ b) first ∙ append_assoc old a b

-- the text of one more element is written
pub more_pieces : {X : Type 0} (f : X → List ℕ) (xs : List X) (i : ℕ) (x : X) (old out new : List ℕ) → new ≡ out ++ f x → out ≡ old ++ flat_map f (take i xs) → x ≡ get_or xs i x → i < length xs → new ≡ old ++ flat_map f (take (i + 1) xs)
more_pieces {X = X} f xs i x old out new wrote so is h =
    appended old (flat_map f (take i xs)) (f x) out new so wrote ∙ ap (λ (text : List ℕ). old ++ text) (sym step)
  where
    step : flat_map f (take (i + 1) xs) ≡ flat_map f (take i xs) ++ f x
    step =
        ap (flat_map f) (take_more xs i x h)
        ∙ flat_map-append f (take i xs) (get_or xs i x ∷ [])
        ∙ ap (λ (ys : List ℕ). flat_map f (take i xs) ++ ys) (append-nil (f (get_or xs i x)) ∙ ap f (sym is))

-- pieces of the elements that a function gives
flat_map-map : {X Y : Type 0} (f : Y → List ℕ) (g : X → Y) (xs : List X) → flat_map f (map g xs) ≡ flat_map (λ x. f (g x)) xs
flat_map-map f g [] = refl
flat_map-map f g (x ∷ xs) = ap (λ (text : List ℕ). f (g x) ++ text) (flat_map-map f g xs)

-- the text of what a function gives of one more element is written
pub more_written : {X Y : Type 0} (f : Y → List ℕ) (g : X → Y) (xs : List X) (i : ℕ) (x : X) (old out new : List ℕ) → new ≡ out ++ f (g x) → out ≡ old ++ flat_map f (map g (take i xs)) → x ≡ get_or xs i x → i < length xs → new ≡ old ++ flat_map f (map g (take (i + 1) xs))
more_written f g xs i x old out new wrote so is h =
    more_pieces (λ y. f (g y)) xs i x old out new wrote (so ∙ ap (λ (text : List ℕ). old ++ text) (flat_map-map f g (take i xs))) is h
    ∙ ap (λ (text : List ℕ). old ++ text) (sym (flat_map-map f g (take (i + 1) xs)))

-- the names of the ports of a module are those of the ports of its design
pub names_of_ports : (d : Design) (names : List (List ℕ)) (ports : List ℕ) → map (λ (port : Port). name_in names port.variable) (map (port_of d) ports) ≡ map (name_in names) ports
names_of_ports d names [] = refl
names_of_ports d names (port ∷ ports) = ap (λ rest. name_in names port ∷ rest) (names_of_ports d names ports)

-- a section that isn't empty
section_some : (bytes : List ℕ) → 0 < length bytes → section bytes ≡ bytes ++ 10 ∷ []
section_some [] some = absurd (omega arith)
section_some (byte ∷ bytes) some = refl

-- a blank line ends what was written since
pub section_ended : (bytes : List ℕ) (start : ℕ) → start < length bytes → bytes ++ 10 ∷ [] ≡ take start bytes ++ section (drop start bytes)
section_ended bytes start more =
    let some : 0 < length (drop start bytes) = simp length-drop (omega arith) in
    ap (λ (text : List ℕ). text ++ 10 ∷ []) (sym (take-append-drop start bytes)) ∙ append_assoc (take start bytes) (drop start bytes) (10 ∷ []) ∙ ap (λ (text : List ℕ). take start bytes ++ text) (sym (section_some (drop start bytes) some))
