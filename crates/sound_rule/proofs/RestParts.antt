-- Words that are sound while no vCPU holds anything are sound with empty hands.
use Rattle.std.proofs.Common.{◌≡◌, ℕ, ◌<◌, List, [], Some, IsTrue, refl, sym, subst, inl, inr}
use Rattle.xp_words.specs.Machine.{Machine}
use Rattle.xp_words.specs.declared.place.Place.{Place}
use Rattle.xp_words.specs.Places.{Sizes, sizes_of, memory}
use Rattle.xp_board.specs.declared.holdings.Looking.{Looking}
use Rattle.xp_board.specs.declared.holdings.Work.{Work}
use Rattle.xp_board.specs.declared.holdings.Holdings.{Holdings}
use Rattle.xp_board.specs.Lists.{first_by, some_of, EachOf, Member}
use Rattle.xp_board.specs.Steps.{some_step, EachStep, steps_before}
use Rattle.xp_board.specs.Hands.{IsEmptyHand, work_on, empty}
use Rattle.xp_board.specs.Knowledge.{knows_owner, knows_live, knows_partial}
use Rattle.xp_board.specs.Valid.{LeadsWell, Valid, Permitted}
use Rattle.xp_board.specs.Reach.{Use, Reach, cached, walked, entry}
use Rattle.xp_board.specs.Fresh.{Fresh}
use Rattle.xp_board.specs.Found.{Found}
use Rattle.xp_board.specs.WellFormed.{WellFormed}
use Rattle.xp_board.specs.Sound.{WorkAgrees, Idle, KeptForNobody, DeadDomain, DyingDomain, Domains, Sound, SoundState, SoundWords, hand_of}
use Rattle.sound_rule.proofs.RestCounts.{Nobody, held_rested, counts_rested, alone_rested, map_rested}
use Rattle.xp_board.proofs.Empty.{empty_own_found}

-- ---- an empty hand reaches nothing
nothing_reached : {z : Sizes} {m : Place → ℕ} {g : ℕ} {u : Use} → Reach z m empty g u → ⊥
unfolding Member
nothing_reached (cached x k) = k
nothing_reached (walked x k) = k
nothing_reached (entry f level i r w p b) = nothing_reached r

fresh_nobody : (n : Machine) (m : Place → ℕ) → Fresh n m Nobody
fresh_nobody n m =
    record {
      each = λ v real g u r. absurd (nothing_reached r);
      one_use = λ v w g t u a b r k c d. absurd (nothing_reached r);
    }

-- ---- it has found nothing
no_owner : (z : Sizes) (f o : ℕ) → IsTrue (knows_owner z f o empty) → ⊥
unfolding knows_owner some_of
no_owner z f o k = cc

found_nobody : (n : Machine) (m : Place → ℕ) (s : ℕ) → Found n m Nobody s
unfolding EachOf EachStep steps_before knows_live knows_partial some_of
found_nobody n m s =
    record {
      clock = tt;
      flushed = λ v. tt;
      stopped = λ v. tt;
      life = λ d. tt;
      since_ack = tt;
      since_off = λ v b. tt;
      cold_off = λ v b c r. tt;
      owners = λ f o k. absurd (no_owner (sizes_of n) f o k);
      lives = λ f t k. absurd (cc);
      partials = λ f t k. absurd (cc);
      works = tt;
      locks = tt;
      endings = tt;
      claims = tt;
      privileges = λ d o b. tt;
      own = empty_own_found (sizes_of n) m s;
    }

-- ---- it is idle
idle_nobody : (n : Machine) (m : Place → ℕ) (v : ℕ) → Idle n m Nobody v
idle_nobody n m v =
    record {
      hand = λ r. record { refs = refl; typed = refl; works = refl; locks = refl; ending = refl; claimed = refl; raised = refl; credits = refl; looking = refl };
      cache = λ r. refl;
      walk = λ r. refl;
      cold_cache = λ c. refl;
      cold_walk = λ c. refl;
    }

works_nobody : EachOf (WorkAgrees empty) empty.works
unfolding EachOf
works_nobody = tt

-- ---- a domain that is dying
dying_nobody : (n : Machine) (m : Place → ℕ) (d s : ℕ) → DyingDomain n m Nobody d s
unfolding some_step
dying_nobody n m d s =
    record {
      empty = λ v k a b o c e t l u w. absurd (cc);
      unallocated = λ f a t o k. absurd (cc);
      unpinned = λ f a t o k. absurd (cc);
      unkept = λ f a t o k. absurd (cc);
      other = λ f a t k. absurd (cc);
    }

no_work : (f : ℕ) (works : List Work) (e : Work) → works ≡ [] → work_on f works ≡ Some e → ⊥
unfolding first_by
no_work f works e r k = let none : work_on f [] ≡ Some e = subst (λ xs. work_on f xs ≡ Some e) r k in cc

no_looking : (looks : List Looking) (e : Looking) → looks ≡ [] → Member e looks → ⊥
unfolding Member
no_looking looks e r k = subst (λ xs. Member e xs) r k

module _ (n : Machine) (m : Place → ℕ) (h : ℕ → Holdings) (rest : (s : ℕ) → s < (sizes_of n).vcpus → IsEmptyHand (h s)) where
  -- ---- what entries lead to
  leads_rested : (f i g : ℕ) → LeadsWell (sizes_of n) m h f i g → LeadsWell (sizes_of n) m Nobody f i g
  leads_rested f i g (inl live) = inl live
  leads_rested f i g (inr (form, inl last)) = inr (form, inl last)
  leads_rested f i g (inr (form, inr open_yet)) =
      absurd (no_work f (h open_yet.vcpu).works open_yet.work (rest open_yet.vcpu open_yet.real).works open_yet.here)

  valid_rested : Valid (sizes_of n) m h → Valid (sizes_of n) m Nobody
  valid_rested t =
      record {
        allowed = λ f i b. t.allowed f i (subst (λ x. i < x) (sym (held_rested n m h rest f)) b);
        live = λ f i g k b d. leads_rested f i g (t.live f i g k (subst (λ x. i < x) (sym (held_rested n m h rest f)) b) d);
        fixed = t.fixed;
        contexts = t.contexts;
      }

  permitted_rested : Permitted n m h → Permitted n m Nobody
  permitted_rested t =
      record {
        typed = λ f i g k b d. t.typed f i g k (subst (λ x. i < x) (sym (held_rested n m h rest f)) b) d;
        plain = λ f i g b d. t.plain f i g (subst (λ x. i < x) (sym (held_rested n m h rest f)) b) d;
        contexts = t.contexts;
      }

  -- ---- dead domains
  kept_rested : (d f : ℕ) → KeptForNobody n m h d f → KeptForNobody n m Nobody d f
  kept_rested d f (inl unkept) = inl unkept
  kept_rested d f (inr looked) =
      absurd (no_looking (h looked.vcpu).looking looked.looking (rest looked.vcpu looked.real).looking looked.here)

  dead_rested : (d : ℕ) → DeadDomain n m h d → DeadDomain n m Nobody d
  dead_rested d t =
      record {
        unallocated = t.unallocated;
        unpinned = t.unpinned;
        unkept = λ f o. kept_rested d f (t.unkept f o);
        empty = t.empty;
        stopped = t.stopped;
      }

  domains_rested : Domains n m h → Domains n m Nobody
  domains_rested t = record { dead = λ d b e. dead_rested d (t.dead d b e); dying = λ d s b c e. dying_nobody n m d s }

  -- ---- all of it
  sound_rested : ((s : ℕ) → WellFormed n s empty) → Sound n m h → Sound n m Nobody
  sound_rested formed t =
      record {
        machine = t.machine;
        spelled = t.spelled;
        counts = counts_rested n m h rest t.counts;
        valid = valid_rested t.valid;
        permitted = permitted_rested t.permitted;
        alone = alone_rested n m h rest t.alone;
        works = λ s b. works_nobody;
        found = λ s b. found_nobody n m s;
        formed = λ s b. formed s;
        stamped = t.stamped;
        idle = λ v b. idle_nobody n m v;
        fresh = fresh_nobody n m;
        domains = domains_rested t.domains;
        map = map_rested n m h rest t.map;
      }

pub words_rested : ((n : Machine) (s : ℕ) → WellFormed n s empty) → (n : Machine) (words : List ℕ) (hands : List Holdings) → SoundState n words hands →
    ((s : ℕ) → s < (sizes_of n).vcpus → IsEmptyHand (hand_of hands s)) → SoundWords n words
words_rested formed n words hands state rest =
    record {
      all_words = state.all_words;
      sound = sound_rested n (memory (sizes_of n) words) (hand_of hands) rest (formed n) state.sound;
    }
