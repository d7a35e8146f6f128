-- Pages that are counted, frames that are taken from the free ones and given: determined by the words that are found.
use Rattle.std.proofs.Common.{◌≡◌, ◌≢◌, ℕ, ◌+◌, ◌-◌, ◌/◌, ◌^◌, ◌<◌, ◌≤◌, true, List, [], length, slice_index, Option, Some, None, Result, Ok, Err, refl, sym, ap, ◌∙◌, subst, inl, inr, arith}
use Rattle.xp_words.specs.Machine.{Machine}
use Rattle.xp_words.specs.Places.{number, sizes_of}
use Rattle.xp_words.specs.RefWords.{ref_write}
use Rattle.xp_words.specs.declared.place.Place.TheVariants.{Cell, M2p, Map, Pages, Refs}
use Rattle.xp_words.specs.declared.refs.RefWord.TheVariants.{Dying, Owned}
use Rattle.xp_words.specs.declared.reply.Pause.TheVariants.{Lost}
use Rattle.xp_words.specs.declared.reply.Refusal.TheVariants.{DomainFull}
use Rattle.xp_words.specs.declared.reply.Stop.{Stop}
use Rattle.xp_words.specs.declared.reply.Stop.TheVariants.{Paused, Refused}
use Rattle.xp_board.specs.HintSteps.{map_bit}
use Rattle.xp_board.specs.declared.step.Act.TheVariants.{Add, Cas, Load, Store}
use Rattle.step_maker.specs.Visits.{Only, Then, Visit, visit}
use Rattle.frame_claims.specs.Blocks.{numbered}
use Rattle.frame_claims.specs.Found.{AllGivenBy, ChargedBy, Downwards, FreesOne, GivenBy, RefundedBy, ScrubsOne, TakenBy, TakesOne, Upwards, counts_pages, saw_pages}
use Rattle.determined_laws.specs.Forks.{Tie}
use Rattle.determined_laws.proofs.Ties.{tie_map}
use Rattle.determined_tables.proofs.Entries.{NoMore, Parted, So, alone, none_tie, pair_tie, parted_tie, so_tie, then_map}
use Rattle.determined_claims.proofs.Lists.{Until, halted, through, turned_up, until_tie, upwards_sure}
use Rattle.determined_claims.proofs.Parts.{Either, either_tie, joined_first, only_tie, some_tie}

-- ---- pages
module _ (n : Machine) (d k : ℕ) where
  abbrev lost_pages : ℕ → ℕ → Stop
  lost_pages p x = Paused (Lost (number (sizes_of n) (Pages d)) p x)

  abbrev Counted : ℕ → ℕ → Result (Unit {0}) Stop → List Visit → Type 0
  Counted p x a vs = Either (x ≡ p) (NoMore (Ok tt)) (x ≢ p) (NoMore (Err (lost_pages p x))) a vs

  abbrev Counts : ℕ → Result (Unit {0}) Stop → List Visit → Type 0
  Counts p a vs = Parted (λ x us. Only (counts_pages d k p x) us) (Counted p) a vs

  abbrev Charges : ℕ → Result (Unit {0}) Stop → List Visit → Type 0
  Charges p a vs = Either (slice_index n.page_limit d < p + k) (NoMore (Err (Refused (DomainFull p)))) (p + k ≤ slice_index n.page_limit d) (Counts p) a vs

  abbrev Charged : Result (Unit {0}) Stop → List Visit → Type 0
  Charged a vs = Parted (λ p us. Only (saw_pages d p) us) Charges a vs

  pages_tie : (p x : ℕ) (us vs : List Visit) → Only (saw_pages d p) us → Only (saw_pages d x) vs → Tie us vs (p ≡ x)
  pages_tie p x us vs q r = only_tie (Pages d) Load p x us vs q r

  counted_tie : (p x : ℕ) (a b : Result (Unit {0}) Stop) (us vs : List Visit) → Counted p x a us → Counted p x b vs → Tie us vs (a ≡ b)
  counted_tie p x a b us vs q r = either_tie (λ e off. off e) (none_tie (Ok tt)) (none_tie (Err (lost_pages p x))) a b us vs q r

  counts_tie : (p : ℕ) (a b : Result (Unit {0}) Stop) (us vs : List Visit) → Counts p a us → Counts p b vs → Tie us vs (a ≡ b)
  counts_tie p a b us vs q r = parted_tie (λ x y us vs. only_tie (Pages d) (Cas p (p + k)) x y us vs) (counted_tie p) a b us vs q r

  charges_tie : (p : ℕ) (a b : Result (Unit {0}) Stop) (us vs : List Visit) → Charges p a us → Charges p b vs → Tie us vs (a ≡ b)
  charges_tie p a b us vs q r = either_tie (λ above within. omega (arith, above, within)) (none_tie (Err (Refused (DomainFull p)))) (counts_tie p) a b us vs q r

  counts_view : (p x : ℕ) (a : Result (Unit {0}) Stop) (vs : List Visit) → p + k ≤ slice_index n.page_limit d → Then (Only (saw_pages d p)) (Only (counts_pages d k p x)) vs → Counted p x a [] → Charged a vs
  counts_view p x a vs within t c = record { answer = p; parts = then_map t (λ us s. inr (within, record { answer = x; parts = alone s c })) }

  pub charged_view : (a : Result (Unit {0}) Stop) (vs : List Visit) → ChargedBy n d k a vs → Charged a vs
  charged_view (Ok done) vs p = counts_view p.0 p.0 (Ok tt) vs p.1 p.2 (inl (refl, (refl, refl)))
  charged_view (Err (Refused (DomainFull x))) vs p = record { answer = x; parts = alone p.1 (inl (p.0, (refl, refl))) }
  charged_view (Err (Paused (Lost place e x))) vs p = counts_view e x _ vs p.2 p.3 (inr (p.1, (ap (λ z. Err (Paused (Lost z e x))) p.0, refl)))
  charged_view (Err e) vs p = absurd p

  pub charged_tie : (a b : Result (Unit {0}) Stop) (us vs : List Visit) → ChargedBy n d k a us → ChargedBy n d k b vs → Tie us vs (a ≡ b)
  charged_tie a b us vs p q = parted_tie pages_tie charges_tie a b us vs (charged_view a us p) (charged_view b vs q)

pub refunded_tie : (d k : ℕ) (us vs : List Visit) → RefundedBy d k us → RefundedBy d k vs → Tie us vs (Unit {0})
refunded_tie d k us vs p q = some_tie (Pages d) (Add (2 ^ 64 - k)) us vs p q

-- ---- frames are given
pub given_tie : (d f g : ℕ) (us vs : List Visit) → GivenBy d f g us → GivenBy d f g vs → Tie us vs (Unit {0})
given_tie d f g us vs p q =
    pair_tie (upwards_sure (ScrubsOne f) (λ i. some_tie (Cell f i) (Store 0)) 0 512)
    (pair_tie (some_tie (M2p f) (Store g)) (pair_tie (some_tie (Map (f / 64)) (Add (2 ^ 64 - map_bit f))) (some_tie (Refs f) (Store (ref_write (Owned d true 1)))))) us vs p q

pub all_given_tie : (d f : ℕ) (g : Option ℕ) (k : ℕ) (us vs : List Visit) → AllGivenBy d f g k us → AllGivenBy d f g k vs → Tie us vs (Unit {0})
all_given_tie d f g k us vs p q = upwards_sure (λ i us. GivenBy d (f + i) (numbered g i) us) (λ i. given_tie d (f + i) (numbered g i)) 0 k us vs p q

-- ---- the frames of a block are taken, from the last one down; or down to one that was lost
module _ (n : Machine) (d f : ℕ) (stamps : List ℕ) where
  abbrev Swapped : ℕ → ℕ → ℕ → List Visit → Type 0
  Swapped s j x vs = Only (visit (Refs (f + j)) (Cas s (ref_write (Dying d))) x) vs

  abbrev One : ℕ → Option ℕ → List Visit → Type 0
  One j None vs = TakesOne d f stamps j vs
  One j (Some x) vs = (x ≢ slice_index stamps j) × Swapped (slice_index stamps j) j x vs

  swaps_tie : (j x y : ℕ) (us vs : List Visit) → Swapped (slice_index stamps j) j x us → Swapped (slice_index stamps j) j y vs → Tie us vs (x ≡ y)
  swaps_tie j x y us vs p q = only_tie (Refs (f + j)) (Cas (slice_index stamps j) (ref_write (Dying d))) x y us vs p q

  one_tie : (j : ℕ) (o p : Option ℕ) (us vs : List Visit) → One j o us → One j p vs → Tie us vs (o ≡ p)
  one_tie j None None us vs q r = tie_map us vs _ _ (swaps_tie j (slice_index stamps j) (slice_index stamps j) us vs q r) (λ e. refl)
  one_tie j None (Some y) us vs q r = tie_map us vs _ _ (swaps_tie j (slice_index stamps j) y us vs q r.1) (λ e. absurd (r.0 (sym e)))
  one_tie j (Some x) None us vs q r = tie_map us vs _ _ (swaps_tie j x (slice_index stamps j) us vs q.1 r) (λ e. absurd (q.0 e))
  one_tie j (Some x) (Some y) us vs q r = tie_map us vs _ _ (swaps_tie j x y us vs q.1 r.1) (λ e. ap (λ z. Some z) e)

  -- by how many were taken before
  abbrev down : ℕ → ℕ
  down i = length stamps - 1 - i

  abbrev Downs : ℕ × Option ℕ → List Visit → Type 0
  Downs z vs = Until (λ i o us. One (down i) o us) 0 (length stamps) vs z

  abbrev lost_frame : ℕ → ℕ → Stop
  lost_frame j x = Paused (Lost (number (sizes_of n) (Refs (f + j))) (slice_index stamps j) x)

  abbrev Frees : ℕ → List Visit → Type 0
  Frees j vs = Upwards (FreesOne f stamps) (j + 1) (length stamps) vs

  abbrev Undone : ℕ × Option ℕ → Result (Unit {0}) Stop → List Visit → Type 0
  Undone (i, None) a vs = NoMore (Ok tt) a vs
  Undone (i, Some x) a vs = So (Err (lost_frame (down i) x)) (Frees (down i)) a vs

  downs_tie : (z y : ℕ × Option ℕ) (us vs : List Visit) → Downs z us → Downs y vs → Tie us vs (z ≡ y)
  downs_tie z y us vs p q = until_tie (λ i o us. One (down i) o us) (λ i. one_tie (down i)) 0 (length stamps) z y us vs p q

  frees_tie : (j : ℕ) (us vs : List Visit) → Frees j us → Frees j vs → Tie us vs (Unit {0})
  frees_tie j us vs p q = upwards_sure (FreesOne f stamps) (λ i. some_tie (Refs (f + i)) (Store (slice_index stamps i))) (j + 1) (length stamps) us vs p q

  undone_tie : (z : ℕ × Option ℕ) (a b : Result (Unit {0}) Stop) (us vs : List Visit) → Undone z a us → Undone z b vs → Tie us vs (a ≡ b)
  undone_tie (i, None) a b us vs p q = none_tie (Ok tt) a b us vs p q
  undone_tie (i, Some x) a b us vs p q = so_tie (frees_tie (down i)) (Err (lost_frame (down i) x)) a b us vs p q

  abbrev Takes : Result (Unit {0}) Stop → List Visit → Type 0
  Takes a vs = Parted Downs Undone a vs

  abbrev Stopped : ℕ → ℕ → List Visit → Type 0
  Stopped j x vs = Then (Then (Downwards (TakesOne d f stamps) (length stamps) (j + 1)) (One j (Some x))) (Frees j) vs

  stopped_view : (j i x : ℕ) → j ≡ down i → i ≡ length stamps - (j + 1) → j < length stamps → (vs : List Visit) → Stopped j x vs → Takes (Err (lost_frame j x)) vs
  stopped_view j i x is turned low vs t = record {
    answer = (i, Some x);
    parts = record {
      before = t.before;
      after = t.after;
      first = halted i x (omega (arith, turned, low)) (record {
        before = t.first.before;
        after = t.first.after;
        first = subst (λ z. Upwards (λ h us. TakesOne d f stamps (down h) us) 0 z t.first.before) (sym turned) (turned_up (TakesOne d f stamps) (length stamps) (j + 1) t.first.before t.first.first).1;
        next = subst (λ z. One z (Some x) t.first.after) is t.first.next;
        list = t.first.list;
      });
      next = (ap (λ z. Err (lost_frame z x)) is, subst (λ z. Frees z t.after) is t.next);
      list = t.list;
    };
  }

  lost_view : (place s x j : ℕ) (vs : List Visit) → j < length stamps → place ≡ number (sizes_of n) (Refs (f + j)) → s ≡ slice_index stamps j → x ≢ s → Then (Downwards (TakesOne d f stamps) (length stamps) (j + 1)) (Then (Swapped s j x) (Frees j)) vs →
      Takes (Err (Paused (Lost place s x))) vs
  lost_view place s x j vs low place_is stamp_is other t =
      let u = joined_first t in
      subst (λ z. Takes (Err z) vs) (sym (ap (λ z. Paused (Lost z s x)) place_is ∙ ap (λ z. Paused (Lost (number (sizes_of n) (Refs (f + j))) z x)) stamp_is))
      (stopped_view j (length stamps - (j + 1)) x (omega (arith, low)) refl low vs (record {
        before = u.before;
        after = u.after;
        first = then_map u.first (λ us o. (subst (λ z. x ≢ z) stamp_is other, subst (λ z. Swapped z j x us) stamp_is o));
        next = u.next;
        list = u.list;
      }))

  taken_view : (a : Result (Unit {0}) Stop) (vs : List Visit) → TakenBy n d f stamps a vs → Takes a vs
  taken_view (Ok done) vs p =
      record { answer = (length stamps, None); parts = alone (through (subst (λ z. Upwards (λ h us. TakesOne d f stamps (down h) us) 0 z vs) (omega arith) (turned_up (TakesOne d f stamps) (length stamps) 0 vs p).1)) (refl, refl) }
  taken_view (Err (Paused (Lost place s x))) vs p = lost_view place s x p.0 vs p.1 p.2 p.3 p.4 p.5
  taken_view (Err e) vs p = absurd p

  pub taken_tie : (a b : Result (Unit {0}) Stop) (us vs : List Visit) → TakenBy n d f stamps a us → TakenBy n d f stamps b vs → Tie us vs (a ≡ b)
  taken_tie a b us vs p q = parted_tie downs_tie undone_tie a b us vs (taken_view a us p) (taken_view b vs q)
