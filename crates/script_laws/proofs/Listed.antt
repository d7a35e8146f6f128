-- Lists of elements of which each begins behind a call that settles, and logs nothing: from the law of each.
use Rattle.std.proofs.Common.{◌≡◌, ◌⊎◌, ℕ, zero, suc, ◌<◌, Bool, List, [], ◌∷◌, ◌++◌, length, Option, Some, None, Result, Ok, Err, refl, sym, ap, ◌∙◌, subst, inl, inr, arith}
use Rattle.std.specs.Prelude.{slice_get}
use Rattle.std.proofs.lemmas.List.{append_assoc}
use Rattle.xp_words.specs.declared.reply.LogLine.{LogLine}
use Rattle.xp_words.specs.declared.reply.Stop.{Stop}
use Rattle.xp_words.specs.declared.reply.Stop.TheVariants.{Refused, Paused}
use Rattle.xp_board.specs.Told.{PortValue}
use Rattle.step_maker.specs.Moves.{Came}
use Rattle.step_maker.proofs.Coming.{came_trans}
use Rattle.course_laws.proofs.Awaiting.{AloneStays, NeitherLostNorBusy}
use Rattle.script_law.specs.Scripts.{Answered, answered, done_with, in_order, logged_behind, next_of}
use Rattle.script_law.specs.Values.{Line, Outcome, Solo, Why}
use Rattle.solo_ports.specs.Coming.{Comes}
use Rattle.solo_ports.specs.Standing.{Owes}
use Rattle.vcpu_turn.specs.Lists.{Fitting}
use Rattle.vcpu_turn.specs.Settling.{SettlesFirst}
use Rattle.script_laws.specs.Logged.{AreLines, IsShown}
use Rattle.script_laws.specs.Plain.{PlainList}
use Rattle.script_laws.proofs.Items.{IsAhead, IsKeeping, LawOf, OwesF, first_comes}
use Rattle.script_laws.proofs.Lists.{ItemComes, ListLemmas}
use Rattle.script_laws.proofs.Premises.{FairFrom, fair_back}
use Rattle.script_laws.proofs.Untouched.{SameDomains}
use Rattle.script_laws.proofs.Knowing.{IsKnown}

-- ---- the plain list
-- behind an outcome with that answer
abbrev pub by_answer : {E : Type 0} → (ℕ → E → Solo → Outcome) → List E → ℕ → Outcome → Option Why → Answered
by_answer one es k o r = next_of (answered (done_with k r) 0 r o.lines o.left) r (in_order one es)

pub goes_by : {E : Type 0} (one : ℕ → E → Solo → Outcome) (es : List E) (k : ℕ) (o : Outcome) (r : Option Why) → r ≡ None → by_answer one es k o r ≡ logged_behind o.lines (in_order one es (suc k) o.left)
goes_by one es k o None is = refl
goes_by one es k o (Some y) is = absurd cc

pub stops_by : {E : Type 0} (one : ℕ → E → Solo → Outcome) (es : List E) (k : ℕ) (o : Outcome) (r : Option Why) (y : Why) → r ≡ Some y → by_answer one es k o r ≡ answered k 0 (Some y) o.lines o.left
stops_by one es k o None y is = absurd cc
stops_by one es k o (Some x) y is = ap (λ z. answered k 0 z o.lines o.left) is

unfoldable pub plain_list : {E : Type 0} → (ℕ → E → Solo → Outcome) → PlainList E Solo Why Line Outcome Answered
unfolding in_order
plain_list one =
    record {
      one = one;
      refusal = λ o. o.refusal;
      lines = λ o. o.lines;
      left = λ o. o.left;
      answered = λ k y ls s. answered k 0 y ls s;
      behind = logged_behind;
      in_order = in_order one;
      behind_both = λ xs ys a. ap (λ ls. record { answer = a.answer; lines = ls; left = a.left }) (sym (append_assoc xs ys a.lines));
      behind_it = λ xs ys k y s. refl;
      at_end = λ k s. refl;
      goes_on = λ e es k s fine. goes_by one es k (one k e s) (one k e s).refusal fine;
      ends_at = λ e es k s y off. stops_by one es k (one k e s) (one k e s).refusal y off;
    }

-- ---- lines
pub lines_more : (n : ℕ) (bs cs : List LogLine) (ls ms : List Line) → AreLines n bs ls → AreLines n cs ms → AreLines n (bs ++ cs) (ls ++ ms)
lines_more n [] cs [] ms a b = b
lines_more n [] cs (y ∷ ls) ms a b = absurd a
lines_more n (x ∷ bs) cs [] ms a b = absurd a
lines_more n (x ∷ bs) cs (y ∷ ls) ms a b = (a.0, lines_more n bs cs ls ms a.1 b)

pub no_lines : (n : ℕ) (ls : List Line) → ls ≡ [] → AreLines n [] ls
no_lines n ls none = subst (AreLines n []) (sym none) tt

less_some : {E : Type 0} (es : List E) (k : ℕ) (e : E) → slice_get es k ≡ Some e → k < length es
less_some [] zero e is = absurd cc
less_some [] (suc k) e is = absurd cc
less_some (x ∷ es) zero e is = omega arith
less_some (x ∷ es) (suc k) e is = let l = less_some es k e is in omega arith

-- ---- what is kept of the element that stands next
module _ (stays : AloneStays) (neither : NeitherLostNorBusy) (v0 : PortValue) (Good : Solo → Type 0) {E : Type 0} (es : List E) (Kept : E → PortValue → Solo → Type 0) where
  pub record KeptIn (k : ℕ) (v : PortValue) (s : Solo) : Type 0 where
    pub ahead : IsAhead stays neither v0 Good v s
    pub element : E
    pub at : slice_get es k ≡ Some element
    pub kept : Kept element v s

-- no element logs a line
abbrev pub gives_none : (fits : Fitting) (k : ℕ) (u w : PortValue) (asked : List Bool) (r : Result (Unit {0}) Stop) → fits k u w asked r → List LogLine
gives_none fits k u w asked r f = []

-- ---- the law of each element
module _ (stays : AloneStays) (neither : NeitherLostNorBusy) (v0 : PortValue) (Good : Solo → Type 0) (good_on : (s t : Solo) → SameDomains s t → Good s → Good t) (op : ℕ) {E : Type 0} (es : List E) (P : ℕ → E → PortValue → PortValue → List Bool → Result (Unit {0}) Stop → Type 0) (Kept : E → PortValue → Solo → Type 0) (plain : E → Solo → Outcome) (fits : Fitting)
    (keeping : (e : E) → IsKeeping stays neither v0 Good (Kept e)) (law : (k : ℕ) (e : E) → slice_get es k ≡ Some e → LawOf stays neither v0 Good (P k e) (Kept e) (plain e)) (came : (k : ℕ) (u w : PortValue) (asked : List Bool) (r : Result (Unit {0}) Stop) → fits k u w asked r → Came u w)
    (domains : (e : E) (s : Solo) → SameDomains s (plain e s).left) (fit : (k : ℕ) (e : E) (u w : PortValue) (asked : List Bool) (r : Result (Unit {0}) Stop) → slice_get es k ≡ Some e → fits k u w asked r → SettlesFirst (P k e) u w asked r) where
  abbrev pub one : ℕ → E → Solo → Outcome
  one k e s = plain e s

  abbrev pub OwesIt : PortValue → Solo → Type 0
  OwesIt = OwesF stays neither v0 Good

  abbrev KeptHere : ℕ → PortValue → Solo → Type 0
  KeptHere k v s = KeptIn stays neither v0 Good es Kept k v s

  -- behind an element
  ahead_of : (e : E) (u w : PortValue) (s : Solo) → IsAhead stays neither v0 Good u s → Came u w → IsAhead stays neither v0 Good w (plain e s).left
  ahead_of e u w s a on = record { came = came_trans v0 u w a.came on; good = good_on s (plain e s).left (domains e s) a.good }

  ahead_on : (u w : PortValue) (s : Solo) → IsAhead stays neither v0 Good u s → Came u w → IsAhead stays neither v0 Good w s
  ahead_on u w s a on = record { came = came_trans v0 u w a.came on; good = a.good }

  abbrev Ends : ℕ → Solo → Outcome → PortValue → Result (Unit {0}) Stop → Type 0
  Ends k s o w r = ItemComes (plain_list one) es IsShown (FairFrom v0) OwesIt KeptHere KeptHere fits (gives_none fits) (AreLines op) k s o [] w r

  comes_by : (k : ℕ) (e : E) (u w : PortValue) (s : Solo) (r : Result (Unit {0}) Stop) → slice_get es k ≡ Some e → IsAhead stays neither v0 Good u s → Came u w → Comes (Kept e) w s (plain e s) r × IsKnown (plain e s) r → Ends k s (plain e s) w r
  unfolding plain_list
  comes_by k e u w s (Ok done) at a on (c, shows) = (c.fine, no_lines op (plain e s).lines c.none, record { ahead = ahead_of e u w s a on; owes = c.owes })
  comes_by k e u w s (Err (Refused x)) at a on (c, shows) = (c.why, c.is, c.none, (c.same, shows c.why c.is), record { ahead = ahead_of e u w s a on; owes = c.owes })
  comes_by k e u w s (Err (Paused p)) at a on (inl owes, shows) = inl (record { ahead = ahead_on u w s a on; owes = owes })
  comes_by k e u w s (Err (Paused p)) at a on (inr kept, shows) = inr (record { ahead = ahead_on u w s a on; element = e; at = at; kept = kept })

  waits_by : (k : ℕ) (e : E) (u : PortValue) (s : Solo) → slice_get es k ≡ Some e → OwesIt u s ⊎ KeptHere k u s → IsAhead stays neither v0 Good u s × (Owes u s ⊎ Kept e u s)
  waits_by k e u s at (inl owes) = (owes.ahead, inl owes.owes)
  waits_by k e u s at (inr kept) = (kept.ahead, inr (subst (λ y. Kept y u s) (let same : Some kept.element ≡ Some e = sym kept.at ∙ at in let is : kept.element ≡ e = cc in is) kept.kept))

  item_by : (k : ℕ) (e : E) (s : Solo) (u w : PortValue) (asked : List Bool) (r : Result (Unit {0}) Stop) → slice_get es k ≡ Some e → FairFrom v0 w → fits k u w asked r → OwesIt u s ⊎ KeptHere k u s → Ends k s (plain e s) w r
  item_by k e s u w asked r at fair f pending =
      let waits = waits_by k e u s at pending in
      let does = fit k e u w asked r at f in
      comes_by k e u w s r at waits.0 (came k u w asked r f) (first_comes stays neither v0 Good (P k e) (Kept e) (plain e) (keeping e) (law k e at) u w s asked r waits.0 waits.1 fair does)

  pub list_lemmas : ListLemmas (plain_list one) es IsShown (FairFrom v0) OwesIt KeptHere KeptHere fits (gives_none fits) (AreLines op)
  unfolding plain_list
  list_lemmas =
      record {
        item = item_by;
        back = λ k u w asked r f fair. fair_back v0 u w (came k u w asked r f) fair;
        inside = λ k v s kept. less_some es k kept.element kept.at;
        said_none = tt;
        said_more = λ bs cs ls ms a b. lines_more op bs cs ls ms a b;
      }
