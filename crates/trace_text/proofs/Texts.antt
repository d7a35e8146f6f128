-- The text of a trace as it grows.
use Rattle.std.proofs.Common.{◌≡◌, ℕ, ◌+◌, List, [], ◌∷◌, ◌++◌, length, if◌then◌else◌, refl, ap, ◌∙◌, arith, add-one, append-nil, zero-add, add-zero, take, get_or, ◌<◌}
use Rattle.std.specs.List.{flat_map, enumerate_from}
use Rattle.std.proofs.lemmas.List.Concat.{flat_map-append}
use Rattle.std.proofs.lemmas.Grind.{common_steps}
use Rattle.xp_words.specs.Entries.{is_bit}
use Rattle.xp_words.specs.declared.ops.Op.{Op}
use Rattle.trace_lines.specs.declared.line.Line.{Line}
use Rattle.trace_lines.specs.declared.line.Line.TheVariants as lines
use Rattle.trace_lines.specs.Spelling.{line_text}
use Rattle.trace_text.specs.Lines.{mask_lines, priv_lines, script_lines, op_lines, spelling}

pub spelling_both : (a b : List Line) → spelling (a ++ b) ≡ spelling a ++ spelling b
spelling_both a b = flat_map-append (λ l. line_text l ++ 10 ∷ []) a b

pub mask_more : (n domain mask : ℕ) → spelling (mask_lines (n + 1) domain mask) ≡ spelling (mask_lines n domain mask) ++ spelling (if is_bit n mask then lines.Priv domain n ∷ [] else [])
unfolding mask_lines
mask_more n domain mask = rw add-one (spelling_both (mask_lines n domain mask) (if is_bit n mask then lines.Priv domain n ∷ [] else []))

enumerate_push : {X : Type 0} (n : ℕ) (xs : List X) (x : X) → enumerate_from n (xs ++ x ∷ []) ≡ enumerate_from n xs ++ (n + length xs, x) ∷ []
enumerate_push n [] x = rw add-zero refl
enumerate_push n (y ∷ xs) x =
    let place : n + 1 + length xs ≡ n + length (y ∷ xs) = omega arith in
    ap (λ ps. (n, y) ∷ ps) (enumerate_push (n + 1) xs x ∙ ap (λ k. enumerate_from (n + 1) xs ++ (k, x) ∷ []) place)

pieces_push : {X : Type 0} (f : ℕ → X → List Line) (xs : List X) (x : X) → flat_map (λ p. f p.0 p.1) (enumerate_from 0 (xs ++ x ∷ [])) ≡ flat_map (λ p. f p.0 p.1) (enumerate_from 0 xs) ++ f (length xs) x
pieces_push f xs x = rw (enumerate_push 0 xs x, flat_map-append (λ p. f p.0 p.1) (enumerate_from 0 xs) ((0 + length xs, x) ∷ []), zero-add, append-nil) refl

-- one more of a list whose items are written with their places
pieces_more : {X : Type 0} (f : ℕ → X → List Line) (xs : List X) (x : X) → spelling (flat_map (λ p. f p.0 p.1) (enumerate_from 0 (xs ++ x ∷ []))) ≡ spelling (flat_map (λ p. f p.0 p.1) (enumerate_from 0 xs)) ++ spelling (f (length xs) x)
pieces_more f xs x = ap spelling (pieces_push f xs x) ∙ spelling_both (flat_map (λ p. f p.0 p.1) (enumerate_from 0 xs)) (f (length xs) x)

pieces_at : {X : Type 0} (f : ℕ → X → List Line) (xs : List X) (i : ℕ) (d : X) → i < length xs → spelling (flat_map (λ p. f p.0 p.1) (enumerate_from 0 (take (i + 1) xs))) ≡ spelling (flat_map (λ p. f p.0 p.1) (enumerate_from 0 (take i xs))) ++ spelling (f i (get_or xs i d))
pieces_at f xs i d within =
    let split : take (i + 1) xs ≡ take i xs ++ get_or xs i d ∷ [] = grind (arith, common_steps) in
    let long : length (take i xs) ≡ i = grind (arith, common_steps) in
    rw split (pieces_more f (take i xs) (get_or xs i d) ∙ rw long refl)

pub masks_at : (domains : ℕ) (masks : List ℕ) (i d : ℕ) → i < length masks → spelling (priv_lines domains (take (i + 1) masks)) ≡ spelling (priv_lines domains (take i masks)) ++ spelling (mask_lines domains i (get_or masks i d))
masks_at domains masks i d within = pieces_at (mask_lines domains) masks i d within

pub scripts_at : (scripts : List (List Op)) (i : ℕ) (d : List Op) → i < length scripts → spelling (op_lines (take (i + 1) scripts)) ≡ spelling (op_lines (take i scripts)) ++ spelling (script_lines i (get_or scripts i d))
scripts_at scripts i d within = pieces_at script_lines scripts i d within
