-- The first word `;` of a line.
use Rattle.std.proofs.Common.{◌≡◌, ℕ, suc, ◌+◌, ◌-◌, ◌<◌, ◌≤◌, List, [], ◌∷◌, ◌++◌, length, take, drop, Bool, true, false, cond, eqb, get_or, refl, sym, ap, ◌∙◌, arith, append_assoc}
use Rattle.std.specs.Prelude.{codes}
use Rattle.std.specs.List.{slice_split, onto_first, All}
use Rattle.std.proofs.Math.Seq.{take-add}
use Rattle.std.proofs.lemmas.List.{get_or-take, get_or-drop, drop-drop, length-take-le, length-drop, length-append}
use Rattle.std.proofs.lemmas.List.Elements.{All-nil, All-cons, All-append}
use Rattle.std.proofs.lemmas.List.Splits.{slice_split_none, slice_split_at}
use Rattle.std.proofs.lemmas.List.Sums.{fails_before_first, passes_at_first}
use Rattle.std.proofs.lemmas.Bool.{eqb-true}
use Rattle.std.proofs.lemmas.Slice.Eq.{bytes_eq-Decides}
use Rattle.trace_lines.specs.Words.{is_nil, words_of, spaced_words, is_separator, IsSeparated}
use Rattle.trace_lines.proofs.Splits.{len_before, len_before_within, opened, word_first, split_is_cons}

by_first : (b : Bool) (x : ℕ) (front behind : List (List ℕ)) → is_nil front ≡ false → cond b ([] ∷ (front ++ behind)) (onto_first x (front ++ behind)) ≡ cond b ([] ∷ front) (onto_first x front) ++ behind
by_first b x [] behind some = absurd cc
by_first true x (w ∷ ws) behind some = refl
by_first false x (w ∷ ws) behind some = refl

pub words_before : (front behind : List ℕ) → words_of (front ++ 32 ∷ behind) ≡ words_of front ++ words_of behind
words_before [] behind = refl
words_before (x ∷ xs) behind = rw (words_before xs behind) (by_first (eqb x 32) x (words_of xs) (words_of behind) (split_is_cons xs))

spaced_before : (front : List ℕ) (c : ℕ) (behind : List ℕ) → (0 < length front → c ≡ 32) → spaced_words (front ++ c ∷ behind) ≡ spaced_words front ++ words_of behind
spaced_before [] c behind space = refl
spaced_before (x ∷ xs) c behind space = let is_space : c ≡ 32 = space (omega arith) in rw is_space (words_before xs behind)

abbrev pub word_of : List ℕ → List ℕ
word_of line = take (len_before 32 line) line

one_word : (line : List ℕ) → words_of (word_of line) ≡ word_of line ∷ []
one_word line =
    let size : length (word_of line) ≡ len_before 32 line = length-take-le _ line (len_before_within 32 line) in
    slice_split_none (λ b. eqb b 32) (word_of line) (λ k d lt.
    let before : k < len_before 32 line = omega (arith, size, lt) in
    rw (get_or-take (len_before 32 line) line k d before) (fails_before_first (λ b. eqb b 32) line k d before))

-- no word before the place is a separator
pub record IsPassed (spaced : List ℕ) (place : ℕ) : Type 0 where
  pub within : place ≤ length spaced
  pub space : 0 < place → place < length spaced → get_or spaced place 0 ≡ 32
  pub whole : spaced_words spaced ≡ spaced_words (take place spaced) ++ spaced_words (drop place spaced)
  pub none : All (λ w. is_separator w ≡ false) (spaced_words (take place spaced))

abbrev pub line_behind : List ℕ → ℕ → List ℕ
line_behind spaced place = drop (place + 1) spaced

abbrev pub next : List ℕ → ℕ → ℕ
next spaced place = place + (1 + len_before 32 (line_behind spaced place))

take_past : (n c : ℕ) (line : List ℕ) → take (1 + n) (c ∷ line) ≡ c ∷ take n line
take_past n c line = let same : 1 + n ≡ suc n = omega arith in rw same refl

front_more : (spaced : List ℕ) (place : ℕ) → place < length spaced → take (next spaced place) spaced ≡ take place spaced ++ get_or spaced place 0 ∷ word_of (line_behind spaced place)
front_more spaced place lt = take-add place (1 + len_before 32 (line_behind spaced place)) spaced ∙ ap (λ (l : List ℕ). take place spaced ++ take (1 + len_before 32 (line_behind spaced place)) l) (opened spaced place lt) ∙ ap (λ (l : List ℕ). take place spaced ++ l) (take_past _ _ _)

behind_more : (spaced : List ℕ) (place : ℕ) → drop (next spaced place) spaced ≡ drop (len_before 32 (line_behind spaced place)) (line_behind spaced place)
behind_more spaced place = let same : next spaced place ≡ place + 1 + len_before 32 (line_behind spaced place) = omega arith in ap (λ (n : ℕ). drop n spaced) same ∙ sym (drop-drop (len_before 32 (line_behind spaced place)) (place + 1) spaced)

words_more : (spaced : List ℕ) (place : ℕ) → IsPassed spaced place → place < length spaced → spaced_words (take (next spaced place) spaced) ≡ spaced_words (take place spaced) ++ word_of (line_behind spaced place) ∷ []
words_more spaced place passed lt =
    let size : length (take place spaced) ≡ place = length-take-le place spaced passed.within in
    ap spaced_words (front_more spaced place lt) ∙ spaced_before (take place spaced) (get_or spaced place 0) (word_of (line_behind spaced place)) (λ pos. passed.space (omega (arith, pos, size)) lt)
    ∙ ap (λ (ws : List (List ℕ)). spaced_words (take place spaced) ++ ws) (one_word (line_behind spaced place))

words_from : (spaced : List ℕ) (place : ℕ) → place < length spaced → spaced_words (drop place spaced) ≡ word_of (line_behind spaced place) ∷ spaced_words (drop (next spaced place) spaced)
words_from spaced place lt = ap spaced_words (opened spaced place lt) ∙ word_first (line_behind spaced place) ∙ ap (λ (l : List ℕ). word_of (line_behind spaced place) ∷ spaced_words l) (sym (behind_more spaced place))

pub passed_more : (spaced : List ℕ) (place : ℕ) → IsPassed spaced place → place < length spaced → is_separator (word_of (line_behind spaced place)) ≡ false → IsPassed spaced (next spaced place)
passed_more spaced place passed lt other =
    let line = line_behind spaced place in
    let size : length line ≡ length spaced - (place + 1) = length-drop (place + 1) spaced in
    record {
      within = omega (arith, size, len_before_within 32 line);
      space = λ pos past.
          let inside : len_before 32 line < length line = omega (arith, size, past) in
          let same : next spaced place ≡ place + 1 + len_before 32 line = omega arith in
          rw same (sym (get_or-drop (place + 1) spaced (len_before 32 line) 0) ∙ eqb-true _ 32 (passes_at_first (λ b. eqb b 32) line 0 inside));
      whole = passed.whole ∙ rw (words_from spaced place lt, words_more spaced place passed lt) (sym (append_assoc (spaced_words (take place spaced)) (word_of line ∷ []) (spaced_words (drop (next spaced place) spaced))));
      none = rw (words_more spaced place passed lt) (All-append (λ w. is_separator w ≡ false) (spaced_words (take place spaced)) (word_of line ∷ []) passed.none (All-cons (λ w. is_separator w ≡ false) (word_of line) [] other (All-nil (λ w. is_separator w ≡ false))));
    }

pub is_separator_means : (w : List ℕ) → is_separator w ≡ true → w ≡ codes ";"
is_separator_means w e = (bytes_eq-Decides w (codes ";")).0 e

pub separated : (spaced : List ℕ) (place : ℕ) → IsPassed spaced place → place < length spaced → word_of (line_behind spaced place) ≡ codes ";" → IsSeparated (spaced_words spaced) (spaced_words (take place spaced)) (spaced_words (drop (place + 2) spaced))
separated spaced place passed lt here =
    let line = line_behind spaced place in
    let size : length (word_of line) ≡ len_before 32 line = length-take-le _ line (len_before_within 32 line) in
    let one : len_before 32 line ≡ 1 = sym size ∙ ap length here in
    let same : next spaced place ≡ place + 2 = omega (arith, one) in
    record {
      whole = passed.whole ∙ ap (λ (ws : List (List ℕ)). spaced_words (take place spaced) ++ ws) (words_from spaced place lt ∙ rw (here, same) refl);
      none = passed.none;
    }

pub separator_within : (spaced : List ℕ) (place : ℕ) → place < length spaced → word_of (line_behind spaced place) ≡ codes ";" → place + 2 ≤ length spaced
separator_within spaced place lt here =
    let line = line_behind spaced place in
    let size : length (word_of line) ≡ len_before 32 line = length-take-le _ line (len_before_within 32 line) in
    let one : len_before 32 line ≡ 1 = sym size ∙ ap length here in
    omega (arith, one, len_before_within 32 line, length-drop (place + 1) spaced)

pub split_separated : (ws front behind : List (List ℕ)) → IsSeparated ws front behind → slice_split is_separator ws ≡ front ∷ slice_split is_separator behind
split_separated ws front behind h = ap (slice_split is_separator) h.whole ∙ slice_split_at is_separator front (codes ";") behind h.none refl

pub shorter_separated : (ws front behind : List (List ℕ)) → IsSeparated ws front behind → length behind < length ws
shorter_separated ws front behind h = omega (arith, ap length h.whole, length-append front (codes ";" ∷ behind))

pub split_together : (ws : List (List ℕ)) → All (λ w. is_separator w ≡ false) ws → slice_split is_separator ws ≡ ws ∷ []
split_together ws none = slice_split_none is_separator ws none
