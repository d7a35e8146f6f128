-- Steps that go forward and leave frames well: one behind the other, and by their visits.
use Rattle.std.proofs.Common.{◌||◌, ◌&&◌, ◌≡◌, ℕ, ◌^◌, ◌<◌, Bool, true, false, List, [], ◌∷◌, ◌++◌, Option, None, refl, sym, ap, ◌∙◌, subst, IsTrue, inr}
use Rattle.xp_words.specs.KindWords.{kind_fields, kind_write}
use Rattle.xp_words.specs.PageTypes.{is_table}
use Rattle.xp_words.specs.declared.kind.KindWord.{KindWord}
use Rattle.xp_words.specs.declared.place.Place.{Place}
use Rattle.xp_words.specs.declared.place.Place.TheVariants.{Cell, Clock, Kind}
use Rattle.xp_board.specs.declared.holdings.Holdings.{Holdings}
use Rattle.xp_board.specs.declared.step.Act.{Act}
use Rattle.xp_board.specs.declared.step.Act.TheVariants.{Store}
use Rattle.xp_board.specs.declared.step.Mark.{Mark}
use Rattle.xp_board.specs.declared.step.StepKind.{StepKind}
use Rattle.xp_board.specs.declared.step.StepKind.TheVariants as kinds
use Rattle.xp_board.specs.Lists.{EachOf}
use Rattle.xp_board.specs.Readings.{is_dead}
use Rattle.xp_board.specs.Told.{Finds, PortValue}
use Rattle.step_maker.specs.Moves.{Moment, Moves, Ran}
use Rattle.step_maker.proofs.Coming.{moment_of, moves_ran, ran_more}
use Rattle.step_maker.specs.Visits.{Does, Only, Then, Visit, visit_of, visits}
use Rattle.step_maker.proofs.Piecing.{each_append}
use Rattle.kind_words.proofs.KindFacts.{clock_is_small}
use Rattle.kept_marks.specs.Marks.{KeptFor, alive, dying, own, taken}
use Rattle.table_entries.specs.Found.{saw_cell}
use Rattle.table_entries.proofs.Listing.{each_next}
use Rattle.acquisition_laws.specs.Forward.{GoesForward, IsAtEnd, is_shed}
use Rattle.acquisition_laws.specs.Leaving.{LeavesWell}
use Rattle.acquisition_laws.proofs.Spelled.{dead_back, parts_back}

pub record Fits (kept : Bool) (f : ℕ) (m : Moment) : Type 0 where
  pub forward : GoesForward m
  pub leaves : LeavesWell kept f m

-- each step from v to w
pub record Goes (kept : Bool) (f : ℕ) (v w : PortValue) : Type 0 where
  pub moments : List Moment
  pub ran : Ran v moments w
  pub fits : EachOf (λ m. Fits kept f m) moments

-- ---- plain ones: at no cell, and none sheds an entry; and no kind word with a `kept` mark is stored, nor one of a dead table
abbrev is_cell : Place → Bool
is_cell (Cell f i) = true
is_cell _ = false

abbrev is_parting : Place → Act → Bool
is_parting (Kind g) (Store w) = (kind_fields w).kept || (is_dead (kind_fields w) && is_table (kind_fields w).kind)
is_parting _ _ = false

abbrev pub is_apart : Option Mark → Place → Act → Bool
is_apart mark p a = is_shed mark || (is_cell p || is_parting p a)

abbrev pub IsPlain : Visit → Type 0
IsPlain s = is_apart s.mark s.place s.act ≡ false

-- a clock value that was found has its place in a kind word
abbrev pub IsSmall : Visit → Type 0
IsSmall s = s.place ≡ Clock → s.found < 2 ^ 36

abbrev pub Plain : List Visit → Type 0
Plain vs = EachOf (λ s. IsSmall s) vs → EachOf (λ s. IsPlain s) vs

abbrev pub ArePlain : (List Visit → Type 0) → Type 0
ArePlain P = (vs : List Visit) → P vs → Plain vs

small_clocks : (v w : PortValue) (ms : List Moment) → Ran v ms w → EachOf (λ s. IsSmall s) (visits ms)
unfolding EachOf
small_clocks v w [] ran = tt
small_clocks v w (m ∷ ms) ran =
    let u = ran.0 in
    ((λ at. clock_is_small u.post.machine u.post.vcpu u.holdings m.found (subst (λ p. Finds u.post.machine u.post.vcpu u.holdings p m.found) at ran.2.moves.finds)), small_clocks v u ms ran.1)

neither : (a b : Bool) → (a || b) ≡ false → (a ≡ false) × (b ≡ false)
neither true b off = absurd cc
neither false b off = (refl, off)

both_off : (a b : Bool) → (a && b) ≡ false → IsTrue a → IsTrue b → ⊥
both_off true true off a b = let is : false ≡ true = sym off in absurd cc
both_off true false off a b = absurd cc
both_off false b off x y = absurd cc

-- a word that is neither kept nor a dead table's
at_kind : (m : Moment) (g w : ℕ) → m.place ≡ Kind g → m.act ≡ Store w → is_parting m.place m.act ≡ false → ((kind_fields w).kept ≡ false) × ((is_dead (kind_fields w) && is_table (kind_fields w).kind) ≡ false)
at_kind m g w at act off =
    neither (kind_fields w).kept (is_dead (kind_fields w) && is_table (kind_fields w).kind) (sym (ap (λ p. is_parting p m.act) at ∙ ap (λ a. is_parting (Kind g) a) act) ∙ off)

abbrev IsAtEndThere : Holdings → Place → Type 0
IsAtEndThere h (Cell f i) = IsAtEnd h f i
IsAtEndThere h _ = Unit {0}

module _ {kept : Bool} {f : ℕ} where
  stores_well : (m : Moment) → is_parting m.place m.act ≡ false → LeavesWell kept f m
  stores_well m off =
      record {
        marked = λ g w at act on. let no : true ≡ false = sym on ∙ (at_kind m g w at act off).0 in absurd cc;
        dead = λ g w at act dead table. absurd (both_off (is_dead (kind_fields w)) (is_table (kind_fields w).kind) (at_kind m g w at act off).1 dead table);
      }

  plain_fits : (m : Moment) → is_apart m.mark m.place m.act ≡ false → Fits kept f m
  plain_fits m off =
      let no = neither (is_shed m.mark) (is_cell m.place || is_parting m.place m.act) off in
      let two = neither (is_cell m.place) (is_parting m.place m.act) no.1 in
      record { forward = record { unshed = no.0; looks = λ g j load here. let is : true ≡ false = sym (ap is_cell here) ∙ two.0 in absurd cc }; leaves = stores_well m two.1 }

  -- ---- one behind the other
  pub goes_nothing : (v : PortValue) → Goes kept f v v
  unfolding EachOf
  goes_nothing v = record { moments = []; ran = refl; fits = tt }

  pub goes_then : {v u w : PortValue} → Goes kept f v u → Goes kept f u w → Goes kept f v w
  goes_then {v} {u} {w} a b =
      record { moments = b.moments ++ a.moments; ran = ran_more v u w a.moments b.moments a.ran b.ran; fits = each_append (λ m. Fits kept f m) a.moments b.moments a.fits b.fits }

  goes_once : {v w : PortValue} {p : Place} {a : Act} {kind : StepKind} {mark : Option Mark} {found : ℕ} → Fits kept f (moment_of v p a kind mark found) → Moves v w p a kind mark found → Goes kept f v w
  unfolding EachOf
  goes_once {v} {w} {p} {a} {kind} {mark} {found} fits m = record { moments = moment_of v p a kind mark found ∷ []; ran = moves_ran v w p a kind mark found m; fits = (fits, tt) }

  pub goes_step : {v w : PortValue} {p : Place} {a : Act} {kind : StepKind} {mark : Option Mark} {found : ℕ} → is_apart mark p a ≡ false → Moves v w p a kind mark found → Goes kept f v w
  unfolding moment_of
  goes_step {v} {w} {p} {a} {kind} {mark} {found} off m = goes_once (plain_fits (moment_of v p a kind mark found) off) m

-- ---- by visits
module _ (kept : Bool) (f : ℕ) where
  each_fits : (ms : List Moment) → EachOf (λ s. IsPlain s) (visits ms) → EachOf (λ m. Fits kept f m) ms
  unfolding EachOf
  each_fits [] a = tt
  each_fits (m ∷ ms) a = (plain_fits m a.0, each_fits ms a.1)

  looked_first : (ms : List Moment) (v w : PortValue) (g i word : ℕ) (later : List Visit) → Ran v ms w → visits ms ≡ later ++ (saw_cell g i word ∷ []) → EachOf (λ s. IsPlain s) later → IsAtEnd v.holdings g i → EachOf (λ m. Fits kept f m) ms
  unfolding EachOf
  looked_first [] v w g i word [] ran is on end = absurd cc
  looked_first [] v w g i word (s ∷ later) ran is on end = absurd cc
  looked_first (m ∷ []) v w g i word [] ran is on end =
      let here : visit_of m ≡ saw_cell g i word = cc in
      let place = ap (λ (s : Visit). s.place) here in
      let hand = ran.2.hand ∙ ap (λ (x : PortValue). x.holdings) ran.1 in (
        record {
          forward = record { unshed = ap (λ (s : Visit). is_shed s.mark) here; looks = λ h j load at. subst (λ p. IsAtEndThere m.hand p) (sym place ∙ at) (subst (λ x. IsAtEnd x g i) (sym hand) end) };
          leaves = stores_well m (ap (λ (s : Visit). is_parting s.place s.act) here);
        },
        tt,
      )
  looked_first (m ∷ k ∷ ms) v w g i word [] ran is on end = absurd cc
  looked_first (m ∷ ms) v w g i word (s ∷ later) ran is on end =
      let here : visit_of m ≡ s = cc in
      let rest : visits ms ≡ later ++ (saw_cell g i word ∷ []) = cc in
      (plain_fits m (subst (λ (x : Visit). IsPlain x) (sym here) on.0), looked_first ms v ran.0 g i word later ran.1 rest on.1 end)

module _ {kept : Bool} {f : ℕ} where
  pub goes_by : {v w : PortValue} (P : List Visit → Type 0) → ArePlain P → Does v w P → Goes kept f v w
  unfolding Does
  goes_by {v} {w} P on a = record { moments = a.0; ran = a.1; fits = each_fits kept f a.0 (on (visits a.0) a.2 (small_clocks v w a.0 a.1)) }

  -- an entry is looked at, the next or the last recorded one as the hand says then, and the rest is plain
  pub goes_behind : {v w : PortValue} (g i : ℕ) (Q : ℕ → List Visit → Type 0) → IsAtEnd v.holdings g i → ((word : ℕ) → ArePlain (Q word)) → Does v w (λ vs. (word : ℕ) × Then (Only (saw_cell g i word)) (Q word) vs) → Goes kept f v w
  unfolding Does
  goes_behind {v} {w} g i Q end plain a =
      let word = a.2.0 in
      let t = a.2.1 in
      record {
        moments = a.0;
        ran = a.1;
        fits = looked_first kept f a.0 v w g i word t.after a.1 (t.list ∙ ap (λ vs. t.after ++ vs) t.first) (plain word t.after t.next (each_next (λ s. IsSmall s) t (small_clocks v w a.0 a.1))) end;
      }

-- ---- kind words
-- one that is stored with neither a mark nor of a dead table
pub store_plain : (g : ℕ) (k : KindWord) → k.number < 2 ^ 36 → k.progress < 2 ^ 10 → (k.kept || (is_dead k && is_table k.kind)) ≡ false → is_apart None (Kind g) (Store (kind_write k)) ≡ false
store_plain g k number progress off = parts_back k number progress ∙ off

-- A frame is left with its `kept` mark, and the life of its domain is looked at.
module _ {f : ℕ} (k : KindWord) (number : k.number < 2 ^ 36) (progress : k.progress < 2 ^ 10) (undead : is_dead k ≡ false) where
  marked_fits : (v : PortValue) (found : ℕ) → Fits true f (moment_of v (Kind f) (Store (kind_write k)) kinds.Kind None found)
  unfolding moment_of
  marked_fits v found =
      record {
        forward = record { unshed = refl; looks = λ g j load here. absurd cc };
        leaves = record {
          marked = λ g w at act on. inr (refl, (let is : g ≡ f = cc in is));
          dead = λ g w at act dead table.
              let word : kind_write k ≡ w = cc in
              let no : true ≡ false = sym dead ∙ (ap (λ n. is_dead (kind_fields n)) (sym word) ∙ (dead_back k number progress ∙ undead)) in
              absurd cc;
        };
      }

  pub kept_goes : {v w : PortValue} {owner : ℕ} → KeptFor v w f k owner → Goes true f v w
  kept_goes {v} (own same left) = goes_once (marked_fits v left.0) left.1
  kept_goes {v} (alive u off left look) = goes_then (goes_once (marked_fits v left.0) left.1) (goes_step refl look)
  kept_goes {v} (dying u x y life off left look some back name) = goes_then (goes_once (marked_fits v left.0) left.1) (goes_then (goes_step refl look) (goes_then (goes_step refl back) (goes_step refl name)))
  kept_goes {v} (taken u x life found off left look some back other) = goes_then (goes_once (marked_fits v left.0) left.1) (goes_then (goes_step refl look) (goes_step refl back))
