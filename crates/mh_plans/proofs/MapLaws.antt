-- The numbers of one more number.
use Rattle.std.proofs.Common.{◌≡◌, ◌∙◌, ℕ, ◌+◌, ◌<◌, List, [], ◌∷◌, ◌++◌, length, map, drop, get_or, sym, ap}
use Rattle.std.proofs.lemmas.List.{append_assoc, drop_more}

pub map_more : (f : ℕ → ℕ) (xs done new : List ℕ) (i y : ℕ) → i < length xs → map f xs ≡ done ++ map f (drop i xs) → y ≡ f (get_or xs i 0) → new ≡ done ++ y ∷ [] → map f xs ≡ new ++ map f (drop (i + 1) xs)
map_more f xs done new i y h e v n =
    e
    ∙ (ap (λ ys. done ++ map f ys) (drop_more xs i 0 h)
    ∙ (sym (append_assoc done (f (get_or xs i 0) ∷ []) (map f (drop (i + 1) xs)))
    ∙ ap (λ ys. ys ++ map f (drop (i + 1) xs)) (ap (λ z. done ++ z ∷ []) (sym v) ∙ sym n)))
