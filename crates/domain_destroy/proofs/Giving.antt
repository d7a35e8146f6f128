-- The allocated mark of a frame of a domain that is destroyed is taken off, and its reference given back.
use Rattle.std.proofs.Common.{◌≡◌, ◌≢◌, ℕ, ◌==◌, not, if◌then◌else◌, length, Bool, true, false, [], ◌∷◌, ◌++◌, Some, None, Ok, Err, refl, sym, ap, ◌∙◌, subst, arith, inl, inr}
use Rattle.std.proofs.lemmas.Bool.{cases_Bool}
use Rattle.std.proofs.lemmas.List.Elements.{All-cons, All-nil}
use Rattle.xp_words.specs.Places.{number, place_at, sizes_of}
use Rattle.xp_words.specs.RefWords.{IsRef, ref_read, ref_write}
use Rattle.xp_words.specs.declared.place.Place.TheVariants.{Refs}
use Rattle.xp_words.specs.declared.refs.RefWord.TheVariants.{Owned}
use Rattle.xp_words.specs.declared.reply.Pause.TheVariants.{Lost}
use Rattle.xp_words.specs.declared.reply.Stop.{Stop}
use Rattle.xp_words.specs.declared.reply.Stop.TheVariants.{Paused}
use Rattle.xp_words.proofs.PlaceLaws.{place_back}
use Rattle.xp_words.proofs.RefLaws.{ref_read-write, ref_write-read}
use Rattle.xp_words.proofs.Shared.{eq_false as when_ne}
use Rattle.xp_board.specs.Acts.{left_by}
use Rattle.xp_board.specs.LifeSteps.{is_unallocated}
use Rattle.xp_board.specs.Readings.{is_owned_by, owner_of}
use Rattle.xp_board.specs.Told.{PortValue}
use Rattle.xp_board.specs.declared.holdings.OwnerFound.TheVariants as owners
use Rattle.xp_board.specs.declared.step.Act.TheVariants.{Cas, Load}
use Rattle.xp_board.specs.declared.step.StepKind.TheVariants as kinds
use Rattle.xp_board.proofs.RefWords.{owned_says, read_small}
use Rattle.xp_board.proofs.Sums.{when_eq}
use Rattle.step_maker.specs.Answers.{Misses, Returns, Serves, Stops, deeds_by, exchanged, missed_at}
use Rattle.step_maker.specs.Asked.{IsAsked, Request, doomed, of, of_back}
use Rattle.step_maker.specs.Finding.{FoundAt}
use Rattle.step_maker.specs.Holds.{Holds, Rests, Same}
use Rattle.step_maker.specs.Moves.{Came, Met, Moves}
use Rattle.step_maker.specs.Reasons.{Reason}
use Rattle.step_maker.proofs.Changing.{found_before, moves_found}
use Rattle.step_maker.proofs.Coming.{came_self, came_trans, met_after, met_before, moment_of, moves_came, moves_met}
use Rattle.step_maker.proofs.Piecing.{serves_back, serves_came, serves_step}
use Rattle.type_rule.proofs.DomainLaw.{owned_by}
use Rattle.flush_words.proofs.Lasting.{last_left}
use Rattle.frame_words.specs.Freeing.{Puts, gave}
use Rattle.frame_words.specs.Refs.{took}
use Rattle.domain_destroy.specs.Asking.{IsDestroyDeed, of_domain}
use Rattle.domain_destroy.specs.Clearing as clearing
use Rattle.domain_destroy.specs.Destroying.{GaveMark, LeavesAs}
use Rattle.domain_destroy.specs.Emptying.{NamesNone}
use Rattle.domain_destroy.proofs.Parts.{look_serves, moved_left, one_look, went_same}
use Rattle.frame_claims.proofs.Shared.{mark_same}

-- ---- a frame that was found to be the domain's is asked
pub doomed_asked : (v w : PortValue) (f d word : ℕ) (rose : Bool) → owner_of word ≡ Some d → FoundAt (Met v w) (Refs f) word → IsAsked v.post.machine v.post.vcpu (of_domain v.post.machine d rose) (Met v w) f
doomed_asked v w f d word rose owned seen = of d None (doomed d word refl seen owned refl tt)

-- another's
pub other_tests : (d word : ℕ) → owner_of word ≢ Some d → is_owned_by d word ≡ false
other_tests d word off =
    elim (cases_Bool (is_owned_by d word)) [
      | inl on ↦ absurd (off (owned_by d word on))
      | inr other ↦ other
    ]

module _ {v u : PortValue} {f word : ℕ} (d : ℕ) (look : Moves v u (Refs f) Load kinds.Look None word) (same : Same v u) (rests : Rests v) (clear : NamesNone v) where
  looked : (r : Request) → Serves v u r []
  looked r = one_look v u (Refs f) word (λ q. tt) look r

  found_as : (test : ℕ → Bool) → test word ≡ true → LeavesAs v u (Refs f) test
  unfolding left_by
  found_as test passes = moved_left v u (Refs f) Load kinds.Look None word test look passes

  -- it has none
  pub unmarked : is_unallocated word ≡ true → GaveMark v u d f (Ok true)
  unmarked off =
      record {
        part = went_same v u d (Ok true) rests clear same (look_serves v u d (Ok true) (Refs f) word refl (λ q. tt) look) tt tt (clearing.GivesMark.none u word look off);
        unallocated = λ is. found_as is_unallocated off;
        others = λ is. absurd cc;
      }

  -- it is another domain's
  pub elsewhere : {owner count : ℕ} → ref_read word ≡ Some (Owned owner true count) → owner ≢ d → GaveMark v u d f (Ok false)
  elsewhere {owner} {count} read other =
      let said = owned_says word owner true count read in
      let on : is_unallocated word ≡ false = ap (λ k. k == 0) said.mark in
      let off : owner_of word ≢ Some d = λ is. other (let k : Some owner ≡ Some d = sym said.owned ∙ is in cc) in
      record {
        part = went_same v u d (Ok false) rests clear same (look_serves v u d (Ok false) (Refs f) word refl (λ q. tt) look) tt tt (clearing.GivesMark.others u word look on off);
        unallocated = λ is. absurd cc;
        others = λ is. found_as (λ w. not (is_owned_by d w)) (ap not (other_tests d word off));
      }

  -- ---- the exchange
  module _ {w : PortValue} {count found : ℕ} (read : ref_read word ≡ Some (Owned d true count))
      (try : Moves u w (Refs f) (Cas (ref_write (Owned d true count)) (ref_write (Owned d false count))) kinds.Ref None found) where
    abbrev from : ℕ
    from = ref_write (Owned d true count)

    abbrev to : ℕ
    to = ref_write (Owned d false count)

    law : IsRef (Owned d true count) × (from ≡ word)
    law = ref_write-read word (Owned d true count) (read_small word _ read) read

    from_read : ref_read from ≡ Some (Owned d true count)
    from_read = ap ref_read law.1 ∙ read

    to_read : ref_read to ≡ Some (Owned d false count)
    unfolding IsRef
    to_read = ref_read-write (Owned d false count) law.0

    owned : owner_of word ≡ Some d
    owned = (owned_says word d true count read).owned

    came_w : Came u w
    came_w = moves_came u w (Refs f) (Cas from to) kinds.Ref None found try

    asked : (x : PortValue) (rose : Bool) → Came w x → IsAsked v.post.machine v.post.vcpu (of_domain v.post.machine d rose) (Met v x) f
    asked x rose after = doomed_asked v x f d word rose owned (found_before v u x (Refs f) word (came_trans u w x came_w after) (moves_found v u (Refs f) Load kinds.Look None word look))

    reason : (rose : Bool) → Reason v.post.machine v.post.vcpu (of_domain v.post.machine d rose) (Met v w) (Refs f) (Cas from to) found u.holdings
    reason rose = (asked w rose (came_self w), λ free. absurd (let off = (owned_says from d true count from_read).free in cc))

    tried : (rose : Bool) → Serves v w (of_domain v.post.machine d rose) (deeds_by (Refs f) (Cas from to) kinds.Ref found u.holdings ++ [])
    tried rose = serves_step v u w (of_domain v.post.machine d rose) [] (Refs f) (Cas from to) kinds.Ref None found (looked _) try (reason rose)

    -- it found another word
    module _ (lost_it : found ≢ from) (still_same : Same u w) where
      there : place_at (sizes_of v.post.machine) (number (sizes_of v.post.machine) (Refs f)) ≡ Refs f
      there = place_back (sizes_of v.post.machine) (Refs f) look.may.place

      missed_serves : (rose : Bool) → Serves v w (of_domain v.post.machine d rose) (missed_at (place_at (sizes_of v.post.machine) (number (sizes_of v.post.machine) (Refs f))) ++ [])
      missed_serves rose = rw there (subst (λ b. Serves v w (of_domain v.post.machine d rose) ((if b then exchanged (Refs f) from to else (Misses (Refs f) ∷ [])) ++ [])) (when_ne found from lost_it) (tried rose))

      lost_why : (rose : Bool) → Stops v w (of_domain v.post.machine d rose) (Paused (Lost (number (sizes_of v.post.machine) (Refs f)) from found))
      unfolding Stops moment_of left_by
      lost_why rose = (
        Refs f,
        refl,
        (λ e. cc),
        (
          record {
            before = moment_of v (Refs f) Load kinds.Look None word;
            exchange = moment_of u (Refs f) (Cas from to) kinds.Ref None found;
            new = to;
            was_before = met_before v u w _ (moves_met v u (Refs f) Load kinds.Look None word look) came_w;
            was_exchange = met_after v u w _ (moves_came v u (Refs f) Load kinds.Look None word look) (moves_met u w (Refs f) (Cas from to) kinds.Ref None found try);
            place_before = refl;
            place = refl;
            act = refl;
            word = refl;
            last = last_left v u (Refs f) Load kinds.Look None word look (length v.holdings.steps) (omega arith) ∙ ap Some (sym law.1);
            other = lost_it;
          },
          reason rose,
        ),
      )

      pub lost_mark : GaveMark v w d f (Err (Paused (Lost (number (sizes_of v.post.machine) (Refs f)) from found)))
      lost_mark =
          record {
            part = went_same v w d (Err (Paused (Lost (number (sizes_of v.post.machine) (Refs f)) from found))) rests clear (still_same ∙ same)
                (record { deeds = []; are = All-nil _; serves = λ rose due. missed_serves rose }) (λ rose due. lost_why rose) tt
                (clearing.GivesMark.lost u w from count found (subst (λ y. Moves v u (Refs f) Load kinds.Look None y) (sym law.1) look) from_read lost_it try);
            unallocated = tt;
            others = tt;
          }

  -- it is off, and its reference is given back
  module _ {w : PortValue} {count : ℕ} (read : ref_read word ≡ Some (Owned d true count))
      (took_off : Moves u w (Refs f) (Cas (ref_write (Owned d true count)) (ref_write (Owned d false count))) kinds.Ref None (ref_write (Owned d true count))) where
    deed : deeds_by (Refs f) (Cas (ref_write (Owned d true count)) (ref_write (Owned d false count))) kinds.Ref (ref_write (Owned d true count)) u.holdings ≡ Returns f ∷ []
    deed = rw (when_eq (ref_write (Owned d true count)) (ref_write (Owned d true count)) refl, (owned_says (ref_write (Owned d true count)) d true count (from_read read took_off)).mark, (owned_says (ref_write (Owned d false count)) d false count (to_read read took_off)).mark) refl

    left_off : is_unallocated (left_by (Cas (ref_write (Owned d true count)) (ref_write (Owned d false count))) (ref_write (Owned d true count))) ≡ true
    unfolding left_by
    left_off = rw (when_eq (ref_write (Owned d true count)) (ref_write (Owned d true count)) refl, (owned_says (ref_write (Owned d false count)) d false count (to_read read took_off)).mark) refl

    module _ (x : PortValue) (back : Serves w x (of_back f) []) (puts : Puts w x f) (holds : Holds u w (took f d u.holdings)) (gives : Holds w x (gave f w.holdings)) where
      came_x : Came w x
      came_x = serves_came w x (of_back f) [] back

      given_serves : (rose : Bool) → Serves v x (of_domain v.post.machine d rose) (Returns f ∷ [])
      given_serves rose =
          serves_back v w x (of_domain v.post.machine d rose) (Returns f ∷ []) [] (subst (λ ds. Serves v w (of_domain v.post.machine d rose) (ds ++ [])) deed (tried read took_off rose)) f (asked read took_off x rose came_x) back

      given_left : LeavesAs v x (Refs f) is_unallocated
      unfolding moment_of
      given_left =
          record {
            moment = moment_of u (Refs f) (Cas (ref_write (Owned d true count)) (ref_write (Owned d false count))) kinds.Ref None (ref_write (Owned d true count));
            was = met_after v u x _ (moves_came v u (Refs f) Load kinds.Look None word look) (met_before u w x _ (moves_met u w (Refs f) _ kinds.Ref None _ took_off) came_x);
            place = refl;
            passes = left_off;
          }

      pub given_mark : GaveMark v x d f (Ok true)
      given_mark =
          record {
            part = went_same v x d (Ok true) rests clear (mark_same v u w x f d same holds gives)
                (record { deeds = Returns f ∷ []; are = All-cons (IsDestroyDeed v.post.machine d) (Returns f) [] tt (All-nil (IsDestroyDeed v.post.machine d)); serves = λ rose due. given_serves rose }) tt tt
                (clearing.GivesMark.given u w x (ref_write (Owned d true count)) count (subst (λ y. Moves v u (Refs f) Load kinds.Look None y) (sym (law read took_off).1) look) (from_read read took_off) took_off puts);
            unallocated = λ is. given_left;
            others = λ is. absurd cc;
          }

-- the pause that the code makes of it
pub lost_is : (v u w : PortValue) (f : ℕ) {d word count found : ℕ} {e : Stop} → Same v u → Same u w → ref_read word ≡ Some (Owned d true count) → e ≡ Paused (Lost (number (sizes_of w.post.machine) (Refs f)) word found) →
    Paused (Lost (number (sizes_of v.post.machine) (Refs f)) (ref_write (Owned d true count)) found) ≡ e
lost_is v u w f {d} {word} {count} {found} {e} first second read is =
    ap (λ y. Paused (Lost (number (sizes_of v.post.machine) (Refs f)) y found)) (ref_write-read word (Owned d true count) (read_small word _ read) read).1
    ∙ ap (λ (q : PortValue). Paused (Lost (number (sizes_of q.post.machine) (Refs f)) word found)) (sym (second ∙ first)) ∙ sym is
