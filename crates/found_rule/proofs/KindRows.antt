-- Exchanges of kind words: the frame is neither in work nor closing before it.
use Rattle.std.proofs.Common.{◌≡◌, ◌≢◌, ℕ, suc, ◌+◌, ◌<◌, ◌≤◌, ◌==◌, ◌||◌, not, true, false, length, Option, None, IsTrue, refl, sym, ap, subst, ◌∙◌, arith}
use Rattle.xp_words.specs.declared.kind.KindWord.{KindWord}
use Rattle.xp_words.specs.declared.kind.PageType.{PageType}
use Rattle.xp_words.specs.Machine.{Machine}
use Rattle.xp_words.specs.declared.place.Place.{Place}
use Rattle.xp_words.specs.declared.place.Place.TheVariants.{Clock, Kind, Cell}
use Rattle.xp_words.specs.Places.{sizes_of}
use Rattle.xp_board.specs.declared.step.Step.{Step}
use Rattle.xp_board.specs.declared.holdings.OwnerFound.{OwnerFound}
use Rattle.xp_board.specs.declared.holdings.OwnerFound.TheVariants as owners
use Rattle.xp_board.specs.declared.holdings.Liveness.TheVariants as lives
use Rattle.xp_board.specs.declared.holdings.Lock.{Lock}
use Rattle.xp_board.specs.declared.holdings.Holdings.{Holdings}
use Rattle.xp_board.specs.Lists.{EachOf}
use Rattle.xp_board.specs.Readings.{kind_at, is_live, type_count, kind_stamp}
use Rattle.xp_board.specs.Hands.{works_on, ref_owner, owner_from}
use Rattle.xp_board.specs.KindSteps.{KindRow, Count, Locks, Pin, Unpin, after_kind_row, still_looking, counted, locked, pinned, unpinned, live_typed}
use Rattle.xp_board.specs.After.{noted}
use Rattle.xp_board.specs.Found.{WorkFound, LockFound}
use Rattle.xp_board.specs.WellFormed.{IsWorkFormed, IsLockFormed, IsLookingFormed}
use Rattle.xp_board.specs.Sound.{Sound, is_busy}
use Rattle.step_effects.proofs.ActEffects.{Turned}
use Rattle.xp_board.proofs.KindForms.{live_form}
use Rattle.found_rule.proofs.Learning.{Act, act}
use Rattle.found_rule.proofs.Words.{Words}
use Rattle.found_rule.proofs.WordsAt.{words_kind}
use Rattle.found_rule.proofs.KnownFacts.{OwnerRight, IsLiveAs, RefRight, TypedRight, LockRight}
use Rattle.found_rule.proofs.KnownStays.{owner_new, live_new, partial_new, live_found, partial_found}
use Rattle.found_rule.proofs.HandFacts.{ReachKept}
use Rattle.found_rule.proofs.MyHand.{refs_old, typed_old, lock_right_old, locks_old}
use Rattle.found_rule.proofs.KindLaw.{KindRest, kind_done, kind_grown, kind_works_stay, kind_works_formed, kind_locks_formed, ref_owner_right}
use Rattle.found_rule.proofs.Quiet.{Done}
use Rattle.xp_board.proofs.HeldByForm.{live_idle}
use Rattle.xp_board.proofs.KindReadings.{stamp_live}
use Rattle.xp_board.proofs.HandLists.{EachOf-more, EachOf-without, EachOf-kept}
use Rattle.xp_board.proofs.Works.{nobody_works}
use Rattle.xp_board.proofs.MoreSteps.{none_last}
use Rattle.xp_board.proofs.EntryWords.{type_same}

module _ (n : Machine) (s : ℕ) (x : Step) (m m2 : Place → ℕ) (b c : ℕ → Holdings) (l : s < (sizes_of n).vcpus) (sound : Sound n m b) (others : (t : ℕ) → t ≢ s → c t ≡ b t) (f : ℕ) where
  -- the hand once the exchange has told that the vCPU looks no more
  abbrev base : Holdings
  base = record (b s) { looking = still_looking f (m2 (Kind f)) (b s).looking }

  -- ---- words
  -- the frame has no type count, or is live before and after with the same type
  pub free_words : ((q : Place) → q ≢ Kind f → m2 q ≡ m q) → is_busy (kind_at m f) ≡ false → (0 < type_count (kind_at m f) → IsTrue (is_live (kind_at m f)) → IsTrue (is_live (kind_at m2 f))) →
      (0 < type_count (kind_at m f) → (kind_at m2 f).kind ≡ (kind_at m f).kind) → kind_stamp (m2 (Kind f)) ≤ m Clock → Words n s m m2 b
  free_words o free live kind stamp = words_kind n s m m2 b sound f o live kind stamp (λ t k d some. let q = nobody_works n m b sound.alone f free t k in omega arith)

  -- live before and after
  pub live_words : ((q : Place) → q ≢ Kind f → m2 q ≡ m q) → (k w : KindWord) → kind_at m f ≡ k → kind_at m2 f ≡ w → k.validated ≡ true → 0 < k.number → w.validated ≡ true → w.kind ≡ k.kind → Words n s m m2 b
  live_words o k w was is v some now kind =
      free_words o (ap is_busy was ∙ live_idle k v some) (λ q r. ap is_live is ∙ now) (λ q. ap (λ y. y.kind) is ∙ kind ∙ sym (ap (λ y. y.kind) was))
      (let e = stamp_live (m2 (Kind f)) w is now in omega arith)

  module _ (u : Holdings) (acted : Act n s (Kind f) m m2 (b s) u (c s)) (words : Words n s m m2 b) (free : is_busy (kind_at m f) ≡ false) where
    pub none : works_on f (b s).works ≡ 0
    none = nobody_works n m b sound.alone f free s l

    pub looked : u.looking ≡ still_looking f (m2 (Kind f)) (b s).looking → EachOf (IsLookingFormed n s) u.looking
    looked e = rw e (EachOf-kept (IsLookingFormed n s) (λ y. not (y.frame == f) || (y.word == m2 (Kind f))) (b s).looking (sound.formed s l).looking)

    -- no frame comes into work, and none under a lock
    pub row_done : KindRest (b s) u → u.works ≡ (b s).works → u.locks ≡ (b s).locks → u.looking ≡ still_looking f (m2 (Kind f)) (b s).looking →
        (ReachKept n m m2 b c → EachOf (RefRight (sizes_of n) m2 (c s).steps) u.refs) → (ReachKept n m m2 b c → EachOf (TypedRight (sizes_of n) m2 (c s).steps) u.typed) → Done n s m m2 b c
    unfolding none looked
    row_done rest works locks looking refs typed =
        let z = sizes_of n in
        kind_done n s m m2 b c l sound others f u acted words rest
        (λ reach. record {
          refs = refs reach;
          typed = typed reach;
          lock_right = subst (λ xs. EachOf (LockRight z m2 (c s).steps) xs) (sym locks) (lock_right_old n s (Kind f) m m2 b c u acted l sound words reach);
          works = subst (λ xs. EachOf (WorkFound n m2 c (c s)) xs) (sym works) (kind_works_stay n s m m2 b c l sound others f u acted words none reach);
          locks = subst (λ xs. EachOf (LockFound z m2 (c s)) xs) (sym locks) (locks_old n s (Kind f) m m2 b c u acted l sound words reach);
        })
        (subst (λ xs. EachOf (IsWorkFormed n (c s)) xs) (sym works) (kind_works_formed n s m m2 b c l sound others f u acted words))
        (subst (λ xs. EachOf (IsLockFormed n (c s)) xs) (sym locks) (kind_locks_formed n s m m2 b c l sound others f u acted words)) (looked looking)

    pub refs_are : ReachKept n m m2 b c → EachOf (RefRight (sizes_of n) m2 (c s).steps) (b s).refs
    refs_are reach = refs_old n s (Kind f) m m2 b c u acted l sound words reach

    pub typed_are : ReachKept n m m2 b c → EachOf (TypedRight (sizes_of n) m2 (c s).steps) (b s).typed
    typed_are reach = typed_old n s (Kind f) m m2 b c u acted l sound words reach

    pub owner_is : ReachKept n m m2 b c → OwnerRight (sizes_of n) m2 (c s).steps f (ref_owner f base)
    owner_is reach =
        ref_owner_right (sizes_of n) m m2 (b s).steps (c s).steps (kind_grown n s m m2 b c l sound others f u acted words) f base (omega arith) (refs_are reach)

    -- a typed reference to a frame that this step found or left live
    live_reference : (k : PageType) (w : OwnerFound) → IsLiveAs m2 f k → OwnerRight (sizes_of n) m2 (c s).steps f w → TypedRight (sizes_of n) m2 (c s).steps (live_typed f k w)
    live_reference k w live owner =
        let g = kind_grown n s m m2 b c l sound others f u acted words in
        record {
          owner = owner;
          live = live_found (sizes_of n) m m2 (b s).steps (c s).steps g f k live;
          partial = partial_found (sizes_of n) m m2 (b s).steps (c s).steps g f;
        }

    -- of another of which nothing was found yet
    pub new_reference : (k : Option PageType) (w : OwnerFound) → OwnerRight (sizes_of n) m2 (c s).steps f w →
        TypedRight (sizes_of n) m2 (c s).steps (record { frame = f; kind = k; owner = w; live = lives.Since (length (b s).steps) })
    new_reference k w owner =
        let g = kind_grown n s m m2 b c l sound others f u acted words in
        record {
          owner = owner;
          live = live_new (sizes_of n) m m2 (b s).steps (c s).steps g f k (length (b s).steps) (omega arith);
          partial = partial_new (sizes_of n) m m2 (b s).steps (c s).steps g f (length (b s).steps) (omega arith);
        }

    pub owner_none : OwnerRight (sizes_of n) m2 (c s).steps f (owners.Since (length (b s).steps))
    owner_none = owner_new (sizes_of n) m m2 (b s).steps (c s).steps (kind_grown n s m m2 b c l sound others f u acted words) f (length (b s).steps) (omega arith)

  -- ---- the rows of live frames
  pub turned_act : (row : KindRow) (d : Turned n s x f row m m2 (b s) (c s)) (u : Holdings) → after_kind_row row f d.k d.l (m2 (Kind f)) base ≡ u → u.steps ≡ (b s).steps → u.run ≡ (b s).run →
      u.old0 ≡ (b s).old0 → u.old1 ≡ (b s).old1 → Act n s (Kind f) m m2 (b s) u (c s)
  turned_act row d u is steps run old0 old1 =
      let w = d.wrote in
      act n s x (Kind f) m m2 (b s) u (c s) w.place w.real w.left w.others steps run old0 old1 (d.hand ∙ ap (λ y. noted x (m (Kind f)) y) is)

  live_as : (k w : KindWord) → kind_at m2 f ≡ w → w.validated ≡ true → w.kind ≡ k.kind → IsLiveAs m2 f k.kind
  live_as k w is v kind = (ap is_live is ∙ v, ap (λ y. y.kind) is ∙ kind)

  pub count_done : Turned n s x f Count m m2 (b s) (c s) → Done n s m m2 b c
  count_done d =
      let k = d.k in
      let y = d.may in
      let u = counted f k base in
      let acted = turned_act Count d u refl refl refl refl refl in
      let v : d.l.validated ≡ true = ap (λ q. q.validated) y.left ∙ y.live in
      let kind : d.l.kind ≡ k.kind = ap (λ q. q.kind) y.left in
      let words = live_words d.wrote.others k d.l d.fields_was d.fields_is y.live y.counted v kind in
      let free = ap is_busy d.fields_was ∙ live_idle k y.live y.counted in
      row_done u acted words free (record { ending = refl; claimed = refl; raised = refl; cache = refl; walk = refl; cold = refl; turn = refl; acked = refl; ran = refl }) refl refl refl
      (λ reach. EachOf-without (RefRight (sizes_of n) m2 (c s).steps) (λ e. e.frame) f (b s).refs (refs_are u acted words free reach))
      (λ reach.
      EachOf-more (TypedRight (sizes_of n) m2 (c s).steps) (live_typed f k.kind (ref_owner f base)) (b s).typed
      (live_reference u acted words free k.kind (ref_owner f base) (live_as k d.l d.fields_is v kind) (owner_is u acted words free reach)) (typed_are u acted words free reach))

  pub pin_done : Turned n s x f Pin m m2 (b s) (c s) → Done n s m m2 b c
  pin_done d =
      let k = d.k in
      let y = d.may in
      let u = pinned f base in
      let acted = turned_act Pin d u refl refl refl refl refl in
      let v : d.l.validated ≡ true = ap (λ q. q.validated) y.left ∙ y.live in
      let words = live_words d.wrote.others k d.l d.fields_was d.fields_is y.live y.counted v (ap (λ q. q.kind) y.left) in
      let free = ap is_busy d.fields_was ∙ live_idle k y.live y.counted in
      row_done u acted words free (record { ending = refl; claimed = refl; raised = refl; cache = refl; walk = refl; cold = refl; turn = refl; acked = refl; ran = refl }) refl refl refl
      (refs_are u acted words free)
      (λ reach. EachOf-without (TypedRight (sizes_of n) m2 (c s).steps) (λ e. e.frame) f (b s).typed (typed_are u acted words free reach))

  pub unpin_done : Turned n s x f Unpin m m2 (b s) (c s) → Done n s m m2 b c
  unpin_done d =
      let k = d.k in
      let y = d.may in
      let u = unpinned f k base in
      let acted = turned_act Unpin d u refl refl refl refl refl in
      let v : d.l.validated ≡ true = ap (λ q. q.validated) y.left ∙ y.live in
      let kind : d.l.kind ≡ k.kind = ap (λ q. q.kind) y.left in
      let some = ((live_form (m (Kind f)) k d.was y.live).pinned y.pinned).1 in
      let words = live_words d.wrote.others k d.l d.fields_was d.fields_is y.live some v kind in
      let free = ap is_busy d.fields_was ∙ live_idle k y.live some in
      row_done u acted words free (record { ending = refl; claimed = refl; raised = refl; cache = refl; walk = refl; cold = refl; turn = refl; acked = refl; ran = refl }) refl refl refl
      (refs_are u acted words free)
      (λ reach.
      EachOf-more (TypedRight (sizes_of n) m2 (c s).steps) (live_typed f k.kind (owner_from base)) (b s).typed
      (live_reference u acted words free k.kind (owner_from base) (live_as k d.l d.fields_is v kind) (owner_none u acted words free)) (typed_are u acted words free reach))

  pub lock_done : Turned n s x f Locks m m2 (b s) (c s) → Done n s m m2 b c
  lock_done d =
      let k = d.k in
      let z = sizes_of n in
      let y = d.may in
      let u = locked f k base in
      let acted = turned_act Locks d u refl refl refl refl refl in
      let v : d.l.validated ≡ true = ap (λ q. q.validated) y.left ∙ y.live in
      let kind : d.l.kind ≡ k.kind = ap (λ q. q.kind) y.left in
      let words = live_words d.wrote.others k d.l d.fields_was d.fields_is y.live y.counted v kind in
      let free = ap is_busy d.fields_was ∙ live_idle k y.live y.counted in
      let new : Lock = record { frame = f; kind = k.kind; owner = ref_owner f base; seen = None; since = length (b s).steps + 1 } in
      let long : length (c s).steps ≡ suc (length (b s).steps) = ap length acted.steps in
      kind_done n s m m2 b c l sound others f u acted words
      (record { ending = refl; claimed = refl; raised = refl; cache = refl; walk = refl; cold = refl; turn = refl; acked = refl; ran = refl })
      (λ reach. record {
        refs = EachOf-without (RefRight z m2 (c s).steps) (λ e. e.frame) f (b s).refs (refs_are u acted words free reach);
        typed = typed_are u acted words free reach;
        lock_right = EachOf-more (LockRight z m2 (c s).steps) new (b s).locks
            (record { owner = owner_is u acted words free reach; live = λ t q. let e = live_as k d.l d.fields_is v kind in (e.0, e.1 ∙ type_same k.kind t q) })
            (lock_right_old n s (Kind f) m m2 b c u acted l sound words reach);
        works = kind_works_stay n s m m2 b c l sound others f u acted words (none u acted words free) reach;
        locks = EachOf-more (LockFound z m2 (c s)) new (b s).locks (λ i w q. absurd (none_last z (length (b s).steps + 1) (Cell f i) w (c s).steps (omega arith) q))
            (locks_old n s (Kind f) m m2 b c u acted l sound words reach);
      })
      (kind_works_formed n s m m2 b c l sound others f u acted words)
      (EachOf-more (IsLockFormed n (c s)) new (b s).locks (record { table = y.table; seen = tt; past = omega arith }) (kind_locks_formed n s m m2 b c l sound others f u acted words))
      (looked u acted words free refl)
