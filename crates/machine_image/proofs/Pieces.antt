-- Texts that are written in pieces.
use Rattle.std.proofs.Common.{◌≡◌, ℕ, ◌+◌, ◌≤◌, List, [], ◌++◌, Option, Result, Ok, Err, length, take, drop, refl, sym, ap, ◌∙◌, subst, append_assoc, take-append-drop, arith}
use Rattle.std.specs.Prelude.{OnErr, OnOk}
use Rattle.std.proofs.lemmas.List.{length-append, length-take, take_at}
use Rattle.std.specs.Io.KnownBytes.{Appends}
use Rattle.std.proofs.KnownBytes.{Appends-nil, Appends-trans}
use Rattle.xp_io.specs.Causes.{AppendsFront}

-- a front of the next piece, behind those that are written
pub front_behind : (old mid new : Option (List ℕ)) (done text rest all : List ℕ) → Appends old mid done → AppendsFront mid new text → all ≡ done ++ (text ++ rest) → AppendsFront old new all
front_behind old mid new done text rest all written broke parts =
    let n = broke.0 in
    let front = done ++ take n text in
    let split : all ≡ front ++ (drop n text ++ rest) =
    parts ∙ ap (λ (xs : List ℕ). done ++ (xs ++ rest)) (sym (take-append-drop n text)) ∙ ap (λ (xs : List ℕ). done ++ xs) (append_assoc (take n text) (drop n text) rest) ∙ sym (append_assoc done (take n text) (drop n text ++ rest)) in
    let all_written : Appends old new front = Appends-trans old mid new done (take n text) written broke.2 in
    let same : take (length front) all ≡ front = ap (take (length front)) split ∙ take_at front (drop n text ++ rest) (length front) refl in
    (length front, omega (arith, ap length split, length-append front (drop n text ++ rest)), subst (Appends old new) (sym same) all_written)

pub on_err : {T E : Type 0} (r : Result T E) (P : Type 0) → P → OnErr r P
on_err (Ok x) P p = tt
on_err (Err e) P p = p

-- a front of the first piece
pub front_first : (old new : Option (List ℕ)) (text rest : List ℕ) → AppendsFront old new text → AppendsFront old new (text ++ rest)
front_first old new text rest broke = front_behind old old new [] text rest (text ++ rest) (Appends-nil old) broke refl

pub map_ok : {T E : Type 0} (r : Result T E) (P Q : Type 0) → (P → Q) → OnOk r P → OnOk r Q
map_ok (Ok x) P Q f p = f p
map_ok (Err e) P Q f p = tt

pub map_err : {T E : Type 0} (r : Result T E) (P Q : Type 0) → (P → Q) → OnErr r P → OnErr r Q
map_err (Ok x) P Q f p = tt
map_err (Err e) P Q f p = f p
