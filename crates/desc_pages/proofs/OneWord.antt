-- One word of a descriptor page is looked at, and replaced by its fixed form.
use Rattle.std.proofs.Common.{◌≡◌, ◌≢◌, ℕ, ◌+◌, ◌^◌, ◌<◌, ◌&&◌, not, is_some, if◌then◌else◌, Bool, true, false, List, [], ◌∷◌, ◌++◌, Some, None, IsTrue, refl, sym, ap, ◌∙◌, subst, inl}
use Rattle.xp_words.specs.declared.place.Place.TheVariants.{Cell}
use Rattle.xp_words.specs.Entries.{fixed}
use Rattle.xp_words.specs.KindWords.{kind_fields}
use Rattle.xp_words.specs.Places.{sizes_of}
use Rattle.xp_words.proofs.EntryLaws.{fixed_again}
use Rattle.xp_words.proofs.Shared.{eq_false as when_ne}
use Rattle.xp_board.specs.declared.holdings.Holdings.{Holdings}
use Rattle.xp_board.specs.declared.holdings.Lock.{Lock}
use Rattle.xp_board.specs.declared.holdings.Claimed.{Claimed}
use Rattle.xp_board.specs.declared.holdings.Work.{Work}
use Rattle.xp_board.specs.declared.step.Act.TheVariants.{Load, Store}
use Rattle.xp_board.specs.declared.step.StepKind.TheVariants as kinds
use Rattle.xp_board.specs.Acts.{left_by}
use Rattle.xp_board.specs.After.{counts_fixed, is_fixed, is_fixed_in, learned_cell, learned_claim, learned_last, learned_lock, learned_work}
use Rattle.xp_board.specs.CellSteps.{exchanged}
use Rattle.xp_board.specs.Hands.{changed_claim, changed_lock, claim_of, lock_on, work_on}
use Rattle.xp_board.specs.Lists.{changed_by, first_by}
use Rattle.xp_board.specs.Readings.{is_work}
use Rattle.xp_board.specs.Spelling.{IsSpelling}
use Rattle.xp_board.specs.Told.{PortValue}
use Rattle.xp_board.proofs.Numbers.{cell_there}
use Rattle.xp_board.proofs.Sums.{when_eq}
use Rattle.step_maker.specs.Holds.{Holds, MayWork, still}
use Rattle.step_maker.specs.Moves.{May, Met, Moves}
use Rattle.kind_words.proofs.KindHands.{work_here}
use Rattle.step_maker.specs.Answers.{Deed, Serves, Writes, SetsEntry, is_apart, only_if, stored_cell}
use Rattle.step_maker.specs.Asked.{IsAsked, Request, named, of}
use Rattle.step_maker.specs.Visits.{Visit, visit, Only, Then}
use Rattle.step_maker.proofs.Piecing.{serves_step}
use Rattle.step_maker.proofs.Visiting.{does_as, does_one, does_then}
use Rattle.desc_pages.specs.Fixing.{FixesWord, IsPage, IsPageWork, MayStoreFixed, UnfixesWord, WordBy, changed, stood}
use Rattle.frame_types.proofs.Finishing.{changed_newest}
use Rattle.table_entries.proofs.HandReady.{learned_word}

-- ---- what is learned of the page

no_locks : (f : ℕ) (change : Lock → Lock) (xs : List Lock) → xs ≡ [] → changed_lock f change xs ≡ xs
unfolding changed_by
no_locks f change xs none = rw none refl

no_claims : (f : ℕ) (change : Claimed → Claimed) (xs : List Claimed) → xs ≡ [] → changed_claim f change xs ≡ xs
unfolding changed_by
no_claims f change xs none = rw none refl

learned_page : (f i j x : ℕ) (h : Holdings) (e : Work) (rest : List Work) → e.frame ≡ f → h.works ≡ e ∷ rest → h.locks ≡ [] → h.claimed ≡ [] → learned_cell f i x h ≡ record h { works = learned_work i x e ∷ rest }
learned_page f i j x h e rest frame works locks claimed =
    ap (λ ws. record h { works = ws; locks = changed_lock f (learned_lock i x) h.locks; claimed = changed_claim f (learned_claim i x) h.claimed }) (changed_newest f (learned_work i x) e rest h.works frame works)
    ∙ ap (λ ls. record h { works = learned_work i x e ∷ rest; locks = ls; claimed = changed_claim f (learned_claim i x) h.claimed }) (no_locks f (learned_lock i x) h.locks locks)
    ∙ ap (λ cs. record h { works = learned_work i x e ∷ rest; claimed = cs }) (no_claims f (learned_claim i x) h.claimed claimed)

-- a word that is fixed is one more; another one tells what was seen alone
page_learns : (f i x : ℕ) (e : Work) (page : IsPage f i e) → is_fixed x ≡ true → (learned_work i x e).fixed ≡ i + 1
page_learns f i x e page fit = rw (page.unmarked, page.kind, fit, page.upto) (rw (when_eq i i refl) refl)

page_waits : (f i x : ℕ) (e : Work) (page : IsPage f i e) → is_fixed x ≡ false → (learned_work i x e).fixed ≡ i
page_waits f i x e page off = rw (page.unmarked, page.kind, off, page.upto) (rw (when_eq i i refl) refl)

word_if : (b : Bool) (x y : Work) → x.word ≡ y.word → (if b then y else x).word ≡ y.word
word_if true x y is = refl
word_if false x y is = is

word_kept : (i x : ℕ) (e : Work) → ((learned_work i x e).frame ≡ e.frame) × ((learned_work i x e).recorded ≡ e.recorded) × ((learned_work i x e).since ≡ e.since)
word_kept i x e = elim (kind_fields e.word).unflushed as (λ b. ((if b then e else record e { seen = Some (record { index = i; word = x }); unsettled = learned_last i e.recorded x e.unsettled; fixed = if counts_fixed i x e then e.fixed + 1 else e.fixed }).frame ≡ e.frame)
    × ((if b then e else record e { seen = Some (record { index = i; word = x }); unsettled = learned_last i e.recorded x e.unsettled; fixed = if counts_fixed i x e then e.fixed + 1 else e.fixed }).recorded ≡ e.recorded)
    × ((if b then e else record e { seen = Some (record { index = i; word = x }); unsettled = learned_last i e.recorded x e.unsettled; fixed = if counts_fixed i x e then e.fixed + 1 else e.fixed }).since ≡ e.since)) [
      | true ↦ (refl, refl, refl)
      | false ↦ (refl, refl, refl)
    ]

word_seen : (i x : ℕ) (e : Work) → (kind_fields e.word).unflushed ≡ false → (learned_work i x e).seen ≡ Some (record { index = i; word = x })
word_seen i x e unmarked = rw unmarked refl

page_again : (f i j x : ℕ) (e : Work) → IsPage f i e → (learned_work i x e).fixed ≡ j → IsPage f j (learned_work i x e)
page_again f i j x e page upto =
    let same = learned_word i x e in
    record {
      frame = (word_kept i x e).0 ∙ page.frame;
      work = subst (λ w. IsTrue (is_work (kind_fields w))) (sym same) page.work;
      kind = ap (λ w. (kind_fields w).kind) same ∙ page.kind;
      unmarked = ap (λ w. (kind_fields w).unflushed) same ∙ page.unmarked;
      upto = upto;
    }

-- ---- fixed forms
fixed_is : (x : ℕ) → fixed x ≡ Some x → is_fixed x ≡ true
fixed_is x is = ap (λ o. is_fixed_in x o) is ∙ when_eq x x refl

fixed_not : (x y : ℕ) → fixed x ≡ Some y → y ≢ x → is_fixed x ≡ false
fixed_not x y is off = ap (λ o. is_fixed_in x o) is ∙ when_ne x y (λ same. off (sym same))

unfixed_not : (x : ℕ) → fixed x ≡ None → is_fixed x ≡ false
unfixed_not x is = ap (λ o. is_fixed_in x o) is

-- ---- the steps
abbrev pub ServesBehind : PortValue → PortValue → ℕ → Type 0
ServesBehind v w f = (u : PortValue) (r : Request) (ds : List Deed) → Serves u v r ds → IsTrue (r.names f) → r.entries ≡ true → Serves u w r ds

-- a word is looked at
module _ (v w : PortValue) (f i x : ℕ) (e : Work) (rest : List Work) (p : IsPageWork v f i e rest) (m : Moves v w (Cell f i) Load kinds.Look None x) (hand : Holds v w (learned_cell f i x v.holdings)) where
  pub look_serves : ServesBehind v w f
  look_serves u r ds before names entries = serves_step u v w r ds (Cell f i) Load kinds.Look None x before m (inl entries)

  pub look_works : Holds v w (record v.holdings { works = learned_work i x e ∷ rest })
  look_works = hand ∙ ap (λ h. still (record v { holdings = h })) (learned_page f i i x v.holdings e rest p.page.frame p.works p.locks p.claimed)

  -- it stands
  pub word_stands : fixed x ≡ Some x → FixesWord v w f i e rest
  word_stands is =
      record {
        work = learned_work i x e;
        same = learned_word i x e;
        recorded = (word_kept i x e).1;
        since = (word_kept i x e).2;
        page = page_again f i (i + 1) x e p.page (page_learns f i x e p.page (fixed_is x is));
        hand = look_works;
        serves = look_serves;
        visits = does_as v w (Only (visit (Cell f i) Load x)) (λ vs. WordBy f i vs) (λ vs a. stood x is a) (does_one v w (Cell f i) Load kinds.Look None x m);
      }

  -- it has no fixed form
  pub word_unfixed : fixed x ≡ None → UnfixesWord v w f i x e rest
  word_unfixed is =
      record {
        looks = m;
        none = is;
        work = learned_work i x e;
        same = learned_word i x e;
        recorded = (word_kept i x e).1;
        since = (word_kept i x e).2;
        page = page_again f i i x e p.page (page_waits f i x e p.page (unfixed_not x is));
        hand = look_works;
        serves = look_serves;
      }

  -- another word takes its place
  module _ (y : ℕ) (is : fixed x ≡ Some y) (off : y ≢ x) where
    seen_page : IsPage f i (learned_work i x e)
    seen_page = page_again f i i x e p.page (page_waits f i x e p.page (fixed_not x y is off))

    seen_works : w.holdings.works ≡ learned_work i x e ∷ rest
    seen_works = ap (λ (q : PortValue). q.holdings.works) look_works

    seen_locks : w.holdings.locks ≡ []
    seen_locks = ap (λ (q : PortValue). q.holdings.locks) look_works ∙ p.locks

    seen_claimed : w.holdings.claimed ≡ []
    seen_claimed = ap (λ (q : PortValue). q.holdings.claimed) look_works ∙ p.claimed

    seen_here : work_on f w.holdings.works ≡ Some (learned_work i x e)
    seen_here = work_here f (learned_work i x e) rest w.holdings.works seen_page.frame seen_works

    pub may_store_there : MayStoreFixed f i y w.holdings
    unfolding first_by
    may_store_there =
        record {
          work = learned_work i x e;
          here = seen_here;
          unlocked = ap (λ ls. lock_on f ls) seen_locks;
          unclaimed = ap (λ cs. claim_of f cs) seen_claimed;
          may = record { work = seen_page.work; kind = seen_page.kind; unmarked = seen_page.unmarked; word = x; seen = word_seen i x e p.page.unmarked; fix = is };
        }

    module _ (z : PortValue) (old : ℕ) (n : Moves w z (Cell f i) (Store y) kinds.Cell None old) (after : Holds w z (learned_cell f i y w.holdings)) where
      no_deed : stored_cell f i old y w.holdings ≡ []
      unfolding first_by
      no_deed =
          ap (λ ls. if is_some (lock_on f ls) then (SetsEntry f i old y ∷ []) else only_if (is_apart f w.holdings) (Writes f i y)) seen_locks
          ∙ ap (λ o. only_if (not (is_some o) && not (is_some (claim_of f w.holdings.claimed))) (Writes f i y)) seen_here

      asked : (u : PortValue) (r : Request) → IsTrue (r.names f) → IsAsked u.post.machine u.post.vcpu r (Met u z) f
      asked u r names = of r.owner None (named names refl tt)

      pub store_serves : ServesBehind v z f
      store_serves u r ds before names entries =
          subst (λ es. Serves u z r (es ++ ds)) no_deed (serves_step u w z r ds (Cell f i) (Store y) kinds.Cell None old (look_serves u r ds before names entries) n (asked u r names))

      pub store_works : Holds v z (record v.holdings { works = learned_work i y (learned_work i x e) ∷ rest })
      store_works =
          after ∙ ap (λ h. still (record w { holdings = h })) (learned_page f i i y w.holdings (learned_work i x e) rest seen_page.frame seen_works seen_locks seen_claimed)
          ∙ ap (λ (q : PortValue). record q { holdings = record q.holdings { works = learned_work i y (learned_work i x e) ∷ rest } }) look_works

      both : (xs ys : List Visit) → xs ≡ visit (Cell f i) Load x ∷ [] → ys ≡ visit (Cell f i) (Store y) old ∷ [] → ys ++ xs ≡ visit (Cell f i) (Store y) old ∷ visit (Cell f i) Load x ∷ []
      both xs ys first next = rw (first, next) refl

      pub word_changed : FixesWord v z f i e rest
      word_changed =
          let d = learned_work i x e in
          record {
            work = learned_work i y d;
            same = learned_word i y d ∙ learned_word i x e;
            recorded = (word_kept i y d).1 ∙ (word_kept i x e).1;
            since = (word_kept i y d).2 ∙ (word_kept i x e).2;
            page = page_again f i (i + 1) y d seen_page (page_learns f i y d seen_page (fixed_is y (fixed_again x y is)));
            hand = store_works;
            serves = store_serves;
            visits = does_as v z (Then (Only (visit (Cell f i) Load x)) (Only (visit (Cell f i) (Store y) old))) (λ vs. WordBy f i vs) (λ vs a. changed x y old is off (a.list ∙ both a.before a.after a.first a.next))
                (does_then v w z (Only (visit (Cell f i) Load x)) (Only (visit (Cell f i) (Store y) old)) (does_one v w (Cell f i) Load kinds.Look None x m) (does_one w z (Cell f i) (Store y) kinds.Cell None old n));
          }

-- ---- when the store may be made
pub may_fix : (v : PortValue) (f i w : ℕ) → f < v.post.machine.frames → i < 512 → w < 2 ^ 64 → MayWork v → MayStoreFixed f i w v.holdings → May v (Cell f i) (Store w) kinds.Cell None
unfolding IsSpelling
may_fix v f i w frame index small may fixes =
    record {
      place = cell_there (sizes_of v.post.machine) f i frame index;
      marked = tt;
      running = λ needs. may.running;
      spelling = small;
      act = rw (fixes.unlocked, fixes.unclaimed, fixes.here) fixes.may;
    }

pub fix_hand : (v w : PortValue) (f i new found : ℕ) → Moves v w (Cell f i) (Store new) kinds.Cell None found → lock_on f v.holdings.locks ≡ None → Holds v w (learned_cell f i new v.holdings)
unfolding left_by
fix_hand v w f i new found m unlocked = ap still m.to ∙ ap (λ o. still (record v { holdings = learned_cell f i new (exchanged i new found o v.holdings) })) unlocked
