-- What a guest sees of a destruction sets no machine-to-physical word, and no word of the own vCPU; so all but the frames and one life word stays.
use Rattle.std.proofs.Common.{◌≡◌, ◌≢◌, ℕ, ◌==◌, if◌then◌else◌, All, Bool, true, false, List, [], ◌∷◌, ◌++◌, Result, Ok, Err, refl, sym, ap, ◌∙◌, arith}
use Rattle.std.proofs.lemmas.Bool.Decides.{nat_tests}
use Rattle.std.proofs.lemmas.List.Elements.{All-head, All-tail}
use Rattle.xp_words.specs.Machine.{Machine}
use Rattle.xp_words.specs.Places.{place_at, sizes_of}
use Rattle.xp_words.specs.declared.place.Place.{Place}
use Rattle.xp_words.specs.declared.place.Place.TheVariants as places
use Rattle.xp_words.specs.declared.place.Place.TheVariants.{Life, Vcpu}
use Rattle.xp_words.specs.declared.reply.Pause.TheVariants as pauses
use Rattle.xp_words.specs.declared.reply.Stop.{Stop}
use Rattle.xp_words.specs.declared.reply.Stop.TheVariants.{Refused, Paused}
use Rattle.xp_board.specs.Hands.{IsEmptyHand}
use Rattle.xp_board.specs.Lists.{EachOf, Member}
use Rattle.xp_board.specs.Readings.{domain_of}
use Rattle.xp_board.specs.Told.{PortValue, is_telling, told_word}
use Rattle.xp_board.proofs.PlaceTests.{equal_by}
use Rattle.step_maker.specs.Answers.{Deed, Serves, SetsM2p, SetsWord, missed, missed_at, misses}
use Rattle.step_maker.specs.Asked.{Request}
use Rattle.step_maker.proofs.Piecing.{each_append}
use Rattle.replay_laws.specs.LeftAlone.{life, privilege, word}
use Rattle.replay_laws.proofs.Keeping.{left_alone}
use Rattle.replay_laws.proofs.Mapping.{map_stays}
use Rattle.domain_destroy.specs.Asking.{IsDestroyDeed, ServesDestroy, of_domain}
use Rattle.script_law.specs.Values.{Solo, put_at}
use Rattle.solo_ports.specs.Standing.{ShowsOthers}
use Rattle.solo_ports.proofs.Staying.{told_of}
use Rattle.answer_laws.proofs.Fitting.{each_at}

-- ---- deeds that set nothing of the own vCPU
abbrev Off : ℕ → Deed → Type 0
Off s (SetsM2p f w) = ⊥
Off s (SetsWord v k w) = v ≢ s
Off s _ = Unit {0}

missed_place : (s : ℕ) (p : Place) → EachOf (Off s) (missed_at p)
unfolding EachOf
missed_place s places.Clock = tt
missed_place s (places.Life d) = tt
missed_place s p = (tt, tt)

missed_off : (s : ℕ) (n : Machine) (e : Stop) → EachOf (Off s) (missed n e)
unfolding EachOf
missed_off s n (Refused x) = tt
missed_off s n (Paused pauses.Due) = tt
missed_off s n (Paused (pauses.Lost place expected found)) = missed_place s (place_at (sizes_of n) place)
missed_off s n (Paused (pauses.Busy f found)) = tt
missed_off s n (Paused (pauses.Flush u stamp found)) = tt
missed_off s n (Paused (pauses.Alive u found)) = tt

misses_off : {A : Type 0} (s : ℕ) (n : Machine) (answer : Result A Stop) → EachOf (Off s) (misses n answer)
unfolding EachOf
misses_off s n (Ok a) = tt
misses_off s n (Err e) = missed_off s n e

module _ (n : Machine) (s d : ℕ) (apart : domain_of n s ≢ d) where
  one_off : (x : Deed) → IsDestroyDeed n d x → Off s x
  one_off (SetsM2p f w) is = is
  one_off (SetsWord v k w) is = λ e. apart (ap (domain_of n) (sym e) ∙ is.0)
  one_off _ is = tt

  all_off : (xs : List Deed) → All (IsDestroyDeed n d) xs → EachOf (Off s) xs
  unfolding EachOf
  all_off [] all = tt
  all_off (x ∷ xs) all = (one_off x (All-head (IsDestroyDeed n d) x xs all), all_off xs (All-tail (IsDestroyDeed n d) x xs all))

-- ---- what stays
-- the life word of that domain is another one, and the others are as they were
abbrev pub with_life : ℕ → ℕ → Solo → Solo
with_life d y x = record x { lives = put_at d y x.lives }

module _ {A : Type 0} (v w : PortValue) (d : ℕ) (answer : Result A Stop) (x : Solo) (telling : is_telling v ≡ true) (apart : domain_of v.post.machine v.post.vcpu ≢ d) (empty : IsEmptyHand v.holdings)
    (serves : ServesDestroy v w d answer) (o : ShowsOthers v.post.machine v.post.vcpu (told_word v) x) where
  abbrev r : Request
  r = of_domain v.post.machine d true

  abbrev ds : List Deed
  ds = misses v.post.machine answer ++ serves.deeds

  has : Serves v w r ds
  has = serves.serves true (λ is. refl)

  off : EachOf (Off v.post.vcpu) ds
  off = each_append (Off v.post.vcpu) serves.deeds (misses v.post.machine answer) (all_off v.post.machine v.post.vcpu d apart serves.deeds serves.are) (misses_off v.post.vcpu v.post.machine answer)

  no_map : (f y : ℕ) → Member (SetsM2p f y) ds → ⊥
  no_map f y at = each_at (Off v.post.vcpu) ds (SetsM2p f y) off at

  no_word : (k y : ℕ) → Member (SetsWord v.post.vcpu k y) ds → ⊥
  no_word k y at = each_at (Off v.post.vcpu) ds (SetsWord v.post.vcpu k y) off at refl

  lives_by : (e : ℕ) (b : Bool) → (e == d) ≡ b → x.lives e ≡ told_word v (Life e) → (if b then told_word w (Life d) else x.lives e) ≡ told_word w (Life e)
  lives_by e true is same = ap (λ k. told_word w (Life k)) (sym (equal_by e d is))
  lives_by e false is same = same ∙ sym (left_alone v w r ds (Life e) telling has (life e (λ z. let k : d ≡ e = cc in let t : (e == d) ≡ true = grind (arith, nat_tests) in cc)))

  pub others_stay : ShowsOthers v.post.machine v.post.vcpu (told_word w) (with_life d (told_word w (Life d)) x)
  others_stay =
      record {
        maps = λ f inside. o.maps f inside ∙ sym (map_stays v w r ds f telling has empty.claimed refl (no_map f));
        own = λ k is. o.own k is ∙ sym (left_alone v w r ds (Vcpu v.post.vcpu k) telling has (word v.post.vcpu k (told_of k is) (no_word k)));
        privileges = λ e real. o.privileges e real ∙ sym (left_alone v w r ds (places.Priv e) telling has (privilege e (λ z. cc)));
        lives = λ e real. lives_by e (e == d) refl (o.lives e real);
      }
