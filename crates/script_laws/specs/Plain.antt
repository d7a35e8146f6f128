-- What lists and scripts come to where nothing pauses them: given by equations, and by no definition, so that whatever satisfies them will do.
use Rattle.std.specs.Prelude.{◌≡◌, ℕ, suc, List, [], ◌∷◌, ◌++◌, Option, Some, None}

-- What a plain list of elements is: `one k e s` is what element number k comes to, and `in_order es k s` what these elements come to from s, of which the first has number k.
pub record PlainList (E Solo Why Line Outcome Answered : Type 0) : Type 0 where
  pub one : ℕ → E → Solo → Outcome
  pub refusal : Outcome → Option Why
  pub lines : Outcome → List Line
  pub left : Outcome → Solo
  -- so many elements done, why no more, what was logged, and what is left
  pub answered : ℕ → Option Why → List Line → Solo → Answered
  -- the same behind these lines
  pub behind : List Line → Answered → Answered
  pub in_order : List E → ℕ → Solo → Answered
  pub behind_both : (xs ys : List Line) (a : Answered) → behind xs (behind ys a) ≡ behind (xs ++ ys) a
  pub behind_it : (xs ys : List Line) (k : ℕ) (y : Option Why) (s : Solo) → behind xs (answered k y ys s) ≡ answered k y (xs ++ ys) s
  pub at_end : (k : ℕ) (s : Solo) → in_order [] k s ≡ answered k None [] s
  pub goes_on : (e : E) (es : List E) (k : ℕ) (s : Solo) → refusal (one k e s) ≡ None → in_order (e ∷ es) k s ≡ behind (lines (one k e s)) (in_order es (suc k) (left (one k e s)))
  pub ends_at : (e : E) (es : List E) (k : ℕ) (s : Solo) (y : Why) → refusal (one k e s) ≡ Some y → in_order (e ∷ es) k s ≡ answered k (Some y) (lines (one k e s)) (left (one k e s))

-- What a plain script is, of operations or of the calls of one: `alone k e s` is what number k of them comes to, `answers es k s` and `ends es k s` what these answer from s, of
-- which the first has number k, and what they leave.
pub record PlainScript (E Solo Answer Answered : Type 0) : Type 0 where
  pub answer : Answered → Answer
  pub left : Answered → Solo
  pub alone : ℕ → E → Solo → Answered
  pub answers : List E → ℕ → Solo → List Answer
  pub ends : List E → ℕ → Solo → Solo
  pub no_answers : (k : ℕ) (s : Solo) → answers [] k s ≡ []
  pub no_end : (k : ℕ) (s : Solo) → ends [] k s ≡ s
  pub more_answers : (e : E) (es : List E) (k : ℕ) (s : Solo) → answers (e ∷ es) k s ≡ answer (alone k e s) ∷ answers es (suc k) (left (alone k e s))
  pub more_ends : (e : E) (es : List E) (k : ℕ) (s : Solo) → ends (e ∷ es) k s ≡ ends es (suc k) (left (alone k e s))

-- One of given elements: what `one` of them comes to, done behind each other.
abbrev pub answers_by : {E Solo Answer Answered : Type 0} → (Answered → Answer) → (Answered → Solo) → (ℕ → E → Solo → Answered) → List E → ℕ → Solo → List Answer
answers_by answer left alone [] k s = []
answers_by answer left alone (e ∷ es) k s = answer (alone k e s) ∷ answers_by answer left alone es (suc k) (left (alone k e s))

abbrev pub ends_by : {E Solo Answered : Type 0} → (Answered → Solo) → (ℕ → E → Solo → Answered) → List E → ℕ → Solo → Solo
ends_by left alone [] k s = s
ends_by left alone (e ∷ es) k s = ends_by left alone es (suc k) (left (alone k e s))
