-- Small facts of ports that stand to a plain value.
use Rattle.std.proofs.Common.{◌≡◌, ◌==◌, ℕ, Bool, true, false, if◌then◌else◌, refl, sym, ◌∙◌, List, subst}
use Rattle.xp_words.specs.declared.place.Place.{Place}
use Rattle.xp_words.specs.declared.place.Place.TheVariants.{Cell, Kind, Life, M2p, Priv, Vcpu, Refs, Map, Pages, Clock}
use Rattle.xp_board.specs.Readings.{owner_of, ref_count}
use Rattle.xp_board.specs.RefSteps.{owner_number}
use Rattle.xp_board.specs.Told.{Post, PortValue, told_word}
use Rattle.step_maker.specs.Moves.{Came}
use Rattle.step_maker.specs.Plain.{Leaves, Words}
use Rattle.step_maker.proofs.Alikes.{same_alike}
use Rattle.step_maker.proofs.Coming.{came_post}
use Rattle.step_maker.proofs.Piecing.{serves_came}
use Rattle.answer_laws.proofs.Shared.{alone_telling}
use Rattle.step_maker.specs.Holds.{Rests}
use Rattle.frame_words.specs.Plain.{lowered, put, set_free}
use Rattle.script_law.specs.Values.{Solo, with_frames}
use Rattle.solo_ports.proofs.Staying.{others_stay, others_with, stands_at, stands_stay}
use Rattle.table_words.specs.OldWords.{old_place}
use Rattle.table_words.specs.declared.old_words.OldWord.TheVariants.{First, Second}
use Rattle.solo_ports.specs.Standing.{Clean, Owes, nothing, ShowsOthers, Stands, IsQuiet, IsUnkept}
use Rattle.solo_ports.proofs.Along.{clean_on}
use Rattle.step_maker.specs.Twins.{Alike}
use Rattle.solo_entries.proofs.Known.{Known}
use Rattle.table_law.specs.Plain.{Plain, Describes}
use Rattle.step_maker.specs.Asked.{Request}
use Rattle.step_maker.specs.Answers.{Deed, Serves}

-- ---- a reference that is given back changes the word of the frame, the map and a count of pages
abbrev pub is_counting : Place → Bool
is_counting Clock = true
is_counting (Pages d) = true
is_counting (Refs f) = true
is_counting (Map k) = true
is_counting _ = false

put_by : (b : Bool) (f o : ℕ) (m : Words) (q : Place) → is_counting q ≡ false → (if b then set_free f o (lowered f m) else lowered f m) q ≡ m q
put_by true f o m (Life d) off = refl
put_by true f o m (Vcpu s k) off = refl
put_by true f o m (Kind g) off = refl
put_by true f o m (M2p g) off = refl
put_by true f o m (Cell g i) off = refl
put_by true f o m (Priv d) off = refl
put_by false f o m (Life d) off = refl
put_by false f o m (Vcpu s k) off = refl
put_by false f o m (Kind g) off = refl
put_by false f o m (M2p g) off = refl
put_by false f o m (Cell g i) off = refl
put_by false f o m (Priv d) off = refl
put_by b f o m Clock off = absurd cc
put_by b f o m (Pages d) off = absurd cc
put_by b f o m (Refs g) off = absurd cc
put_by b f o m (Map k) off = absurd cc

pub put_same : (f : ℕ) (m : Words) (q : Place) → is_counting q ≡ false → put f m q ≡ m q
put_same f m q off = put_by (ref_count (m (Refs f)) == 1) f (owner_number (owner_of (m (Refs f)))) m q off

-- ---- nothing changes

pub clean_same : Known → (v w : PortValue) (x : Solo) → Clean v x → Came v w → Alike (told_word w) (told_word v) → Rests w → Clean w x
clean_same k v w x clean came alike rests = clean_on k.stays v w x (record { came = came; words = alike; empty = rests.empty }) clean

pub owes_same : Known → (v w : PortValue) (x : Solo) → Clean v x → Came v w → Leaves w (told_word v) → Rests w → Owes w x
owes_same k v w x clean came leaves rests = nothing (clean_same k v w x clean came (same_alike (told_word w) (told_word v) leaves) rests)

-- ---- other frames
-- behind a call that is quiet, with nothing in hand, the second old word names no frame
pub stands_with : Known → (v w : PortValue) (x : Solo) (p : Plain) (r : Request) (ds : List Deed) → Stands v x → Serves v w r ds → IsQuiet v.post.vcpu r ds → Rests w → told_word w (old_place v.post.vcpu Second) ≡ told_word v (old_place v.post.vcpu Second) →
    IsUnkept v.post.machine p → Stands w (with_frames p x)
stands_with k v w x p r ds stands serves quiet rests second unkept = stands_stay k.stays v w x p r ds stands serves quiet rests.empty (second ∙ stands.second) unkept

-- Steps from v to w behind which nothing is in hand, and of x all but the frames is as before.
pub record KeepsOthers (v w : PortValue) (x : Solo) : Type 0 where
  pub came : Came v w
  pub others : ShowsOthers v.post.machine v.post.vcpu (told_word w) x
  pub rests : Rests w

pub keeps_others : (v w : PortValue) (x : Solo) (r : Request) (ds : List Deed) → Stands v x → Serves v w r ds → IsQuiet v.post.vcpu r ds → Rests w → KeepsOthers v w x
keeps_others v w x r ds s serves quiet rests = record { came = serves_came v w r ds serves; others = others_stay v w r ds (alone_telling v s.alone) serves x s.empty quiet s.others; rests = rests }

pub stands_behind : Known → (v w : PortValue) (x : Solo) (p : Plain) → Stands v x → KeepsOthers v w x → told_word w (old_place v.post.vcpu Second) ≡ told_word v (old_place v.post.vcpu Second) → IsUnkept v.post.machine p → Stands w (with_frames p x)
stands_behind k v w x p s others second unkept =
    stands_at k.stays v w x (with_frames p x) s others.came others.rests.empty (second ∙ s.second) (others_with v.post.machine v.post.vcpu (told_word w) x p others.others) unkept

pub clean_with : Known → (v w : PortValue) (x : Solo) (p : Plain) → Clean v x → Came v w → Stands w (with_frames p x) → told_word w (old_place v.post.vcpu First) ≡ told_word v (old_place v.post.vcpu First) → Describes v.post.machine (told_word w) p → Clean w (with_frames p x)
clean_with k v w x p clean came stands first d =
    let same = came_post v w came in
    record {
      stands = stands;
      first = subst (λ (q : Post). told_word w (old_place q.vcpu First) ≡ 0) (sym same) (first ∙ clean.first);
      frames = subst (λ (q : Post). Describes q.machine (told_word w) p) (sym same) d;
    }
