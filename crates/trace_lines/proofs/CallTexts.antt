-- The text of several calls.
use Rattle.std.proofs.Common.{◌≡◌, ℕ, List, [], ◌∷◌, ◌++◌, refl, ap, ◌∙◌}
use Rattle.std.specs.Prelude.{codes}
use Rattle.std.specs.List.{flat_map}
use Rattle.std.proofs.lemmas.List.Concat.{flat_map-append}
use Rattle.xp_words.specs.declared.ops.Call.{Call}
use Rattle.trace_lines.specs.Spelling.{spaced, call_words, calls_words}

abbrev words_behind : List Call → List (List ℕ)
words_behind cs = flat_map (λ d. codes ";" ∷ call_words d) cs

abbrev text_behind : List Call → List ℕ
text_behind cs = flat_map (λ d. codes " ;" ++ spaced (call_words d)) cs

more_calls : (cs : List Call) → spaced (words_behind cs) ≡ text_behind cs
more_calls [] = refl
more_calls (d ∷ cs) = flat_map-append (λ (w : List ℕ). 32 ∷ w) (codes ";" ∷ call_words d) (words_behind cs) ∙ ap (λ (t : List ℕ). spaced (codes ";" ∷ call_words d) ++ t) (more_calls cs)

pub spaced_calls : (c : Call) (cs : List Call) → spaced (calls_words (c ∷ cs)) ≡ spaced (call_words c) ++ flat_map (λ d. codes " ;" ++ spaced (call_words d)) cs
spaced_calls c cs = flat_map-append (λ (w : List ℕ). 32 ∷ w) (call_words c) (words_behind cs) ∙ ap (λ (t : List ℕ). spaced (call_words c) ++ t) (more_calls cs)
