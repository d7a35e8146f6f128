-- What paused calls leave.
use Rattle.std.proofs.Common.{◌≡◌, ℕ, ◌+◌, ◌≤◌, ◌&&◌, not, if◌then◌else◌, true, false, [], ◌∷◌, refl, sym, ap, ◌∙◌, subst, arith}
use Rattle.std.proofs.lemmas.Bool.Decides.{nat_tests}
use Rattle.xp_words.specs.Machine.{IsMachine, Machine}
use Rattle.xp_words.specs.declared.kind.KindWord.{KindWord}
use Rattle.xp_board.specs.Readings.{kind_at}
use Rattle.xp_board.specs.Told.{Post, PortValue, is_telling, told_word}
use Rattle.step_maker.specs.Plain.{Words}
use Rattle.step_maker.proofs.Coming.{came_post}
use Rattle.kind_words.specs.Kinds.{partial_kind}
use Rattle.partial_state.specs.Levels.{level_type}
use Rattle.partial_state.specs.declared.stack.TableWork.{TableWork}
use Rattle.table_words.specs.OldWords.{old_place}
use Rattle.table_words.specs.declared.old_words.OldWord.TheVariants.{First}
use Rattle.table_law.specs.Alone.{PlainOutcome}
use Rattle.table_law.specs.Lawful.{IsAtRest}
use Rattle.table_law.specs.Plain.{Describes, Plain, sober}
use Rattle.table_law.proofs.Counting.{at_here}
use Rattle.table_law.proofs.Describing.{sober_live}
use Rattle.course_laws.specs.Courses.{IsOrderly}
use Rattle.course_laws.proofs.Extras.{extra, more_of}
use Rattle.course_laws.proofs.Halfway.{over, tables_onto}
use Rattle.course_laws.proofs.Under.{TableOf}
use Rattle.course_laws.proofs.Unwinding.{Parked}
use Rattle.refusal_laws.specs.Repeated as repeated
use Rattle.refusal_laws.specs.Repeated.{IsKeptFrame, IsKeptTable, PausedCalls, word}
use Rattle.refusal_laws.proofs.Repeating.{parked_calls}
use Rattle.refusal_laws.proofs.Sparing.{acquired_sparing}
use Rattle.refusal_laws.proofs.Untouched.{Spares, alike_spares, spares_then}

-- ---- the frame
pub record IsPartialWith (k : KindWord) (p : KindWord) : Type 0 where
  pub off : k.validated ≡ p.validated
  pub partial : k.partial ≡ p.partial
  pub kind : k.kind ≡ p.kind
  pub kept : k.kept ≡ p.kept
  pub pinned : k.pinned ≡ p.pinned
  pub progress : k.progress ≡ p.progress

sober_fields : (k p : KindWord) → p.validated ≡ false → sober k ≡ p → IsPartialWith k p
sober_fields k p off is =
    let live : k.validated ≡ p.validated = sym (sober_live k) ∙ ap (λ (x : KindWord). x.validated) is in
    let same : record k { number = 0 } ≡ p = sym (ap (λ b. if b then k else record k { number = 0 }) (live ∙ off)) ∙ is in
    record {
      off = live;
      partial = ap (λ (x : KindWord). x.partial) same;
      kind = ap (λ (x : KindWord). x.kind) same;
      kept = ap (λ (x : KindWord). x.kept) same;
      pinned = ap (λ (x : KindWord). x.pinned) same;
      progress = ap (λ (x : KindWord). x.progress) same;
    }

module _ (n : Machine) (owner : ℕ) (m : Words) (f level : ℕ) (a : PlainOutcome) (h : Parked n owner m f level a) where
  abbrev t : TableWork
  t = h.table

  of_t : TableOf n owner h.plain h.table
  of_t = (tables_onto n owner h.plain h.inner (h.table ∷ []) h.under.tables).0

  word_is : sober (kind_at m h.table.frame) ≡ partial_kind (level_type h.table.level) true false h.table.done 0
  word_is = sym (h.describes.kinds h.table.frame of_t.inside) ∙ at_here h.table.frame (partial_kind (level_type h.table.level) true false h.table.done 0) (over h.inner h.plain.kinds)

  kept_frame : IsKeptFrame n m h.table.frame owner h.table.level
  kept_frame =
      let k = kind_at m h.table.frame in
      let b = sober_fields k (partial_kind (level_type h.table.level) true false h.table.done 0) refl word_is in
      let own = of_t.owns in
      let e = extra (h.table ∷ []) h.table.frame in
      record {
        inside = of_t.inside;
        share = record { owner = of_t.share.owner; allocated = of_t.share.allocated; count = of_t.share.count + e };
        held = sym (h.describes.shares h.table.frame of_t.inside) ∙ ap (more_of e) of_t.was;
        owns = grind (arith, nat_tests);
        counted = (let some = of_t.some in omega arith);
        partial = ap (λ b. not b && k.partial) b.off ∙ b.partial;
        alive = ap (λ b. not b && (not k.partial && not k.locked)) b.off ∙ ap (λ b. not b && not k.locked) b.partial;
        unlive = b.off;
        kind = b.kind;
        kept = b.kept;
        unpinned = b.pinned;
        few = (let is = b.progress in let few = of_t.few in omega arith);
      }

  pub parked_frame : IsKeptFrame n m f owner level
  parked_frame = subst (λ l. IsKeptFrame n m f owner l) h.level_is (subst (λ g. IsKeptFrame n m g owner h.table.level) h.frame kept_frame)

-- ---- the rest
pub calls_telling : (f owner level : ℕ) (v u : PortValue) → PausedCalls f owner level v u → is_telling u ≡ true
calls_telling f owner level v _ (repeated.first y u answers telling acquired finds on) = on.stays.telling
calls_telling f owner level v _ (repeated.again x y u answers before acquired finds on) = on.stays.telling

pub calls_vcpu : (f owner level : ℕ) (v u : PortValue) → PausedCalls f owner level v u → u.post.vcpu ≡ v.post.vcpu
calls_vcpu f owner level v _ (repeated.first y u answers telling acquired finds on) = on.vcpu ∙ ap (λ (p : Post). p.vcpu) (came_post v y (acquired_sparing v f owner level y answers telling acquired finds).came)
calls_vcpu f owner level v _ (repeated.again x y u answers before acquired finds on) =
    on.vcpu ∙ (ap (λ (p : Post). p.vcpu) (came_post x y (acquired_sparing x f owner level y answers (calls_telling f owner level v x before) acquired finds).came) ∙ calls_vcpu f owner level v x before)

pub calls_spare : (f owner level : ℕ) (v u : PortValue) → PausedCalls f owner level v u → Spares (told_word v) (told_word u)
calls_spare f owner level v _ (repeated.first y u answers telling acquired finds on) =
    spares_then (told_word v) (told_word y) (told_word u) ((acquired_sparing v f owner level y answers telling acquired finds).same telling) (alike_spares (told_word y) (told_word u) on.stays.words)
calls_spare f owner level v _ (repeated.again x y u answers before acquired finds on) =
    let telling = calls_telling f owner level v x before in
    spares_then (told_word v) (told_word x) (told_word u) (calls_spare f owner level v x before)
    (spares_then (told_word x) (told_word y) (told_word u) ((acquired_sparing x f owner level y answers telling acquired finds).same telling) (alike_spares (told_word y) (told_word u) on.stays.words))

module _ (v : PortValue) (f owner level : ℕ) (machine : IsMachine v.post.machine) (telling : is_telling v ≡ true) (calm : IsAtRest v.post.machine (told_word v)) (orderly : IsOrderly v.post.machine (told_word v)) (low : 1 ≤ level) (high : level ≤ 4) (p : Plain) (d : Describes v.post.machine (told_word v) p) where
  pub kept_table : (u : PortValue) → PausedCalls f owner level v u → IsKeptTable f owner level v u
  kept_table u calls =
      let g = parked_calls v f owner level machine telling calm orderly low high p d u calls in
      let vcpu = calls_vcpu f owner level v u calls in
      let same = calls_spare f owner level v u calls in
      record {
        machine = g.machine;
        vcpu = vcpu;
        telling = g.telling;
        frame = subst (λ n. IsKeptFrame n (told_word u) f owner level) (sym g.machine) (parked_frame v.post.machine owner (told_word u) f level _ g.parked);
        same = same;
        first = ap (λ s. told_word u (old_place s First)) vcpu ∙ same (old_place v.post.vcpu First) (word v.post.vcpu 2 (λ e. absurd cc) (λ e. absurd cc));
      }
