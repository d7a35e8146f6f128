-- From place to place: what is left to be stripped, and the lines of what is listed.
use Rattle.std.proofs.Common.{◌≡◌, ◌≢◌, ℕ, zero, suc, ◌+◌, ◌-◌, ◌<◌, ◌≤◌, ◌==◌, if◌then◌else◌, true, List, [], ◌∷◌, ◌++◌, length, Option, Some, None, refl, sym, ap, ◌∙◌, subst, inl, inr, arith}
use Rattle.std.proofs.lemmas.Bool.{cases_Bool}
use Rattle.std.proofs.lemmas.Bool.Decides.{nat_tests}
use Rattle.xp_words.specs.RefWords.{ref_read}
use Rattle.xp_words.specs.declared.refs.RefWord.{RefWord}
use Rattle.xp_words.specs.declared.refs.RefWord.TheVariants.{Free, Owned, Dying}
use Rattle.xp_board.specs.Readings.{count_in, owner_in, owner_of, ref_count}
use Rattle.table_law.specs.Plain.{Plain, share_in, share_of}
use Rattle.domain_destroy.specs.Course as course
use Rattle.domain_destroy.specs.Course.{LeftFrame, ListsFrame}
use Rattle.script_law.specs.Destroying.{left_below, left_line, stripped}
use Rattle.script_law.specs.Repeats.{each_below}
use Rattle.script_law.specs.Values.{Left, Line}
use Rattle.solo_deaths.specs.Dying.{AreLeft, strip_from}

-- ---- frames that are stripped
pub strip_next : (d n f : ℕ) (p : Plain) → f < n → strip_from d f (n - f) p ≡ strip_from d (f + 1) (n - (f + 1)) (stripped d f p)
unfolding strip_from
strip_next d n f p low = ap (λ k. strip_from d f k p) (let e : n - f ≡ suc (n - (f + 1)) = omega arith in e)

pub strip_none : (d n f : ℕ) (p : Plain) → n ≤ f → strip_from d f (n - f) p ≡ p
unfolding strip_from
strip_none d n f p high = ap (λ k. strip_from d f k p) (let e : n - f ≡ 0 = omega arith in e)

strip_more : (d f k : ℕ) (p : Plain) → strip_from d f k (each_below f (stripped d) p) ≡ each_below (f + k) (stripped d) p
unfolding strip_from each_below
strip_more d f zero p = ap (λ j. each_below j (stripped d) p) (let e : f ≡ f + 0 = omega arith in e)
strip_more d f (suc k) p =
    let one : f + 1 ≡ suc f = omega arith in
    let all : suc f + k ≡ f + suc k = omega arith in
    ap (λ j. strip_from d j k (each_below (suc f) (stripped d) p)) one ∙ strip_more d (suc f) k p ∙ ap (λ j. each_below j (stripped d) p) all

pub strip_whole : (d n : ℕ) (p : Plain) → strip_from d 0 n p ≡ each_below n (stripped d) p
unfolding each_below
strip_whole d n p = strip_more d 0 n p ∙ ap (λ j. each_below j (stripped d) p) (let e : 0 + n ≡ n = omega arith in e)

-- ---- lines
pub left_append : (xs ys : List LeftFrame) (ls ms : List Line) → AreLeft xs ls → AreLeft ys ms → AreLeft (xs ++ ys) (ls ++ ms)
left_append [] ys [] ms a b = b
left_append (x ∷ xs) ys (l ∷ ls) ms a b = (a.0, left_append xs ys ls ms a.1 b)
left_append [] ys (l ∷ ls) ms a b = absurd a
left_append (x ∷ xs) ys [] ms a b = absurd a

pub left_length : (xs : List LeftFrame) (ls : List Line) → AreLeft xs ls → length xs ≡ length ls
left_length [] [] a = refl
left_length (x ∷ xs) (l ∷ ls) a = ap suc (left_length xs ls a.1)
left_length [] (l ∷ ls) a = absurd a
left_length (x ∷ xs) [] a = absurd a

pub length_append : (ls ms : List Line) → length (ls ++ ms) ≡ length ls + length ms
length_append [] ms = omega arith
length_append (l ∷ ls) ms = let e = length_append ls ms in omega (arith, e)

-- ---- one frame
unlisted_in : (d f : ℕ) (r : Option RefWord) → owner_in r ≢ Some d → left_line d f (share_in r) ≡ []
unlisted_in d f (Some (Owned o a c)) apart = elim (cases_Bool (o == d)) [
  | inl on ↦ absurd (apart (ap Some (let e : o ≡ d = grind (arith, nat_tests) in e)))
  | inr off ↦ rw off refl
]
unlisted_in d f (Some (Free stamp)) apart = refl
unlisted_in d f (Some (Dying o)) apart = refl
unlisted_in d f None apart = refl

listed_in : (d f y : ℕ) (r : Option RefWord) → ref_read y ≡ r → owner_in r ≡ Some d → 0 < count_in r → AreLeft (record { frame = f; word = y } ∷ []) (left_line d f (share_in r))
listed_in d f y (Some (Owned o a c)) is own some =
    let e : o ≡ d = cc in
    let on : (o == d) ≡ true = grind (arith, nat_tests) in
    subst (λ b. AreLeft (record { frame = f; word = y } ∷ []) (if b then Left f (record { owner = o; allocated = a; count = c }) ∷ [] else [])) (sym on) ((refl, ap share_in is), tt)
listed_in d f y (Some (Free stamp)) is own some = absurd cc
listed_in d f y (Some (Dying o)) is own some = absurd (omega (arith, some))
listed_in d f y None is own some = absurd cc

pub one_listed : (d f y : ℕ) (more : List LeftFrame) → ListsFrame d f y more → AreLeft more (left_line d f (share_of y))
unfolding owner_of ref_count
one_listed d f y _ (course.ListsFrame.others apart) = subst (AreLeft []) (sym (unlisted_in d f (ref_read y) apart)) tt
one_listed d f y _ (course.ListsFrame.left own some) = listed_in d f y (ref_read y) refl own some

pub below_next : (d f : ℕ) (p : Plain) → left_below d p (f + 1) ≡ left_below d p f ++ left_line d f (p.shares f)
unfolding left_below
below_next d f p = ap (left_below d p) (let e : f + 1 ≡ suc f = omega arith in e)
