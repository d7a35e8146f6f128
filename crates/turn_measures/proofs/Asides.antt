-- Steps that change no word of which ranks, old words and lives are read: loads, and steps at other words.
use Rattle.std.proofs.Common.{◌≡◌, ℕ, ◌/◌, if◌then◌else◌, not, Bool, true, false, List, [], ◌∷◌, Option, Result, Ok, refl, sym, ap, ◌∙◌, arith}
use Rattle.std.proofs.lemmas.Bool.{not-true}
use Rattle.std.proofs.lemmas.Bool.Decides.{nat_tests}
use Rattle.xp_words.specs.declared.place.Place.{Place}
use Rattle.xp_words.specs.declared.place.Place.TheVariants.{Clock, Map, Pages, Priv, Refs, Vcpu}
use Rattle.xp_words.specs.RefWords.{ref_write}
use Rattle.xp_words.specs.declared.refs.RefWord.TheVariants.{Free}
use Rattle.xp_words.specs.declared.reply.Stop.{Stop}
use Rattle.xp_board.specs.Acts.{left_by}
use Rattle.xp_board.specs.HintSteps.{map_bit}
use Rattle.xp_board.specs.Lists.{EachOf}
use Rattle.xp_board.specs.Readings.{owner_of}
use Rattle.xp_board.specs.RefSteps.{one_down, owner_number}
use Rattle.xp_board.specs.Told.{Post, PortValue, is_telling, told_word}
use Rattle.xp_board.specs.declared.step.Act.{Act}
use Rattle.xp_board.specs.declared.step.Act.TheVariants.{Add, Load, Store}
use Rattle.xp_board.specs.declared.step.Mark.{Mark}
use Rattle.xp_board.specs.declared.step.StepKind.{StepKind}
use Rattle.xp_board.proofs.PlaceTests.{is_same-other}
use Rattle.step_maker.specs.Moves.{Came, Moves}
use Rattle.step_maker.specs.Plain.{Leaves, Words, change}
use Rattle.step_maker.proofs.Coming.{came_trans, moves_came}
use Rattle.step_maker.proofs.Telling.{leaves, load_leaves}
use Rattle.step_maker.specs.Reasons.{Whose}
use Rattle.step_maker.specs.Visits.{Does, Visit, visits}
use Rattle.step_maker.proofs.Visiting.{does_came}
use Rattle.frame_words.specs.Plain.{got, lowered, put, set_free, stamp_now}
use Rattle.flush_waits.specs.Listing.{WaitedFor}
use Rattle.frame_claims.proofs.Telling.{Alls, told_ran, words_after}
use Rattle.frame_claims.proofs.Waiting.{IsAside, waited_all}
use Rattle.table_entries.specs.Acquiring.{GaveRef, GotRef}
use Rattle.table_entries.proofs.Shared.{ref_came, gave_came}
use Rattle.turn_measures.proofs.Forward.{Still, is_ranked, still_self, still_then}

-- ---- one act
abbrev pub is_aside : Place → Act → Bool
is_aside p Load = true
is_aside p _ = not (is_ranked p)

elsewhere : (a : Act) (p : Place) (m : Words) → is_ranked p ≡ false → Still m (change a p m)
elsewhere a p m off q ranked = ap (λ b. if b then left_by a (m p) else m q) (is_same-other q p (λ e. let both = sym ranked ∙ ap is_ranked e ∙ off in cc))

pub change_aside : (a : Act) (p : Place) (m : Words) → is_aside p a ≡ true → Still m (change a p m)
change_aside Load p m is = λ q ranked. load_leaves p m q
change_aside a p m is = elsewhere a p m (not-true (is_ranked p) is)

-- ---- references
still_if : (b : Bool) (m x y : Words) → Still m x → Still m y → Still m (if b then x else y)
still_if true m x y a c = a
still_if false m x y a c = c

pub got_still : (f : ℕ) (m : Words) → Still m (got f m)
got_still f m = elsewhere _ (Refs f) m refl

lowered_still : (f : ℕ) (m : Words) → Still m (lowered f m)
lowered_still f m = elsewhere (Add one_down) (Refs f) m refl

freed_still : (f owner : ℕ) (m : Words) → Still m (set_free f owner m)
freed_still f owner m =
    let x : Words = change (Add (map_bit f)) (Map (f / 64)) m in
    let y : Words = change (Store (ref_write (Free (stamp_now m)))) (Refs f) x in
    still_then m y (set_free f owner m) (still_then m x y (elsewhere (Add (map_bit f)) (Map (f / 64)) m refl) (elsewhere _ (Refs f) x refl)) (elsewhere (Add one_down) (Pages owner) y refl)

pub put_still : (f : ℕ) (m : Words) → Still m (put f m)
put_still f m =
    let low = lowered_still f m in
    still_if _ m _ _ (still_then m (lowered f m) _ low (freed_still f (owner_number (owner_of (m (Refs f)))) (lowered f m))) low

-- ---- lists of visits
abbrev pub LeavesRanks : Visit → Type 0
LeavesRanks x = is_aside x.place x.act ≡ true

pub aside_still : (m : Words) (xs : List Visit) → EachOf LeavesRanks xs → Still m (words_after m xs)
unfolding EachOf
aside_still m [] all = still_self m
aside_still m (x ∷ xs) all = still_then m (words_after m xs) _ (aside_still m xs all.1) (change_aside x.act x.place (words_after m xs) all.0)

-- those of a wait for flushes
unranked : (p : Place) → IsAside p → is_ranked p ≡ false
unranked Clock a = refl
unranked (Vcpu u k) a = grind (arith, nat_tests)
unranked (Priv d) a = refl
unranked _ a = absurd a

there_aside : (p : Place) (a : Act) → is_ranked p ≡ false → is_aside p a ≡ true
there_aside p Load off = refl
there_aside p _ off = ap not off

pub waited_aside : (q : Post) (whose : Whose) (stamp : ℕ) (answer : Result (Unit {0}) Stop) → Alls LeavesRanks (WaitedFor q whose stamp answer)
waited_aside = waited_all LeavesRanks (λ x a. there_aside x.place x.act (unranked x.place a))

-- what the port tells behind steps whose list is like that
pub record Tells (v w : PortValue) (P : List Visit → Type 0) : Type 0 where
  pub list : List Visit
  pub is : P list
  pub words : Leaves w (words_after (told_word v) list)

pub does_tells : (v w : PortValue) (P : List Visit → Type 0) → Does v w P → is_telling v ≡ true → Tells v w P
unfolding Does
does_tells v w P a telling = record { list = visits a.0; is = a.2; words = (told_ran v w a.0 a.1 telling).1 }

-- ---- from port to port
pub record Passes (v w : PortValue) : Type 0 where
  pub came : Came v w
  pub still : Still (told_word v) (told_word w)

pub passes_then : (v u w : PortValue) → Passes v u → Passes u w → Passes v w
passes_then v u w a b = record { came = came_trans v u w a.came b.came; still = still_then (told_word v) (told_word u) (told_word w) a.still b.still }

still_leaves : (w : PortValue) (m x : Words) → Still m x → Leaves w x → Still m (told_word w)
still_leaves w m x s all q ranked = all q ∙ s q ranked

pub moves_passes : (v w : PortValue) (p : Place) (a : Act) (kind : StepKind) (mark : Option Mark) (found : ℕ) → is_telling v ≡ true → is_aside p a ≡ true → Moves v w p a kind mark found → Passes v w
moves_passes v w p a kind mark found telling is m =
    record {
      came = moves_came v w p a kind mark found m;
      still = still_leaves w (told_word v) (change a p (told_word v)) (change_aside a p (told_word v) is) (leaves v w p a kind mark found m telling);
    }

pub does_passes : (v w : PortValue) (P : List Visit → Type 0) → is_telling v ≡ true → Alls LeavesRanks P → Does v w P → Passes v w
does_passes v w P telling off does =
    let t = does_tells v w P does telling in
    record { came = does_came v w P does; still = still_leaves w (told_word v) (words_after (told_word v) t.list) (aside_still (told_word v) t.list (off t.list t.is)) t.words }

pub ref_passes : (v w : PortValue) (f owner : ℕ) → is_telling v ≡ true → GotRef v w f owner (Ok f) → Passes v w
ref_passes v w f owner telling ref =
    record { came = ref_came v w f owner _ ref; still = still_leaves w (told_word v) (got f (told_word v)) (got_still f (told_word v)) (ref.plain telling).1 }

pub gave_passes : (v w : PortValue) (f : ℕ) → is_telling v ≡ true → GaveRef v w f → Passes v w
gave_passes v w f telling gave =
    record { came = gave_came v w f gave; still = still_leaves w (told_word v) (put f (told_word v)) (put_still f (told_word v)) (gave.plain telling) }
