-- A destruction by the only vCPU begins, or is refused as the plain one.
use Rattle.std.proofs.Common.{◌≡◌, ◌≢◌, ℕ, ◌+◌, ◌<◌, ◌==◌, ◌||◌, nat_lt, not, if◌then◌else◌, true, false, List, length, Some, None, Result, Ok, Err, IsTrue, refl, sym, ap, ◌∙◌, arith}
use Rattle.std.proofs.lemmas.Bool.Decides.{nat_tests}
use Rattle.std.proofs.lemmas.List.Elements.{All-get_or}
use Rattle.xp_words.specs.Machine.{Machine}
use Rattle.xp_words.specs.declared.place.Place.TheVariants.{Life, Priv}
use Rattle.xp_words.specs.declared.reply.Refusal.{Refusal}
use Rattle.xp_words.specs.declared.reply.Refusal.TheVariants.{Dying, NoDomain, NoPrivilege}
use Rattle.xp_words.specs.declared.reply.Stop.{Stop}
use Rattle.xp_words.specs.declared.reply.Stop.TheVariants.{Refused}
use Rattle.xp_board.specs.Acts.{left_by}
use Rattle.xp_board.specs.Readings.{domain_of, has_now}
use Rattle.xp_board.specs.Steps.{is_same}
use Rattle.xp_board.specs.Told.{PortValue, told_word}
use Rattle.xp_board.specs.declared.step.Act.TheVariants.{Cas, Load}
use Rattle.xp_board.proofs.PlaceTests.{same_place}
use Rattle.step_maker.specs.Plain.{Words, change}
use Rattle.step_maker.specs.Visits.{Visit, visit, Does, Only}
use Rattle.step_maker.proofs.Telling.{by_test, load_leaves}
use Rattle.answer_laws.proofs.Shared.{alone_telling}
use Rattle.replay_laws.specs.Replays.{Replays, ReplaysAs, SameWords}
use Rattle.replay_laws.proofs.Replaying.{as_nothing, as_only, as_then, does_replays}
use Rattle.domain_destroy.specs.Course as course
use Rattle.domain_destroy.specs.Course.{BeginsBy, LooksAndDooms, own_of}
use Rattle.script_law.specs.Destroying.{destroy_refusal}
use Rattle.script_law.specs.Values.{Solo}
use Rattle.solo_ports.specs.Standing.{Clean, whose}

module _ (v : PortValue) (x : Solo) (clean : Clean v x) (d : ℕ) where
  abbrev n : Machine
  n = v.post.machine

  abbrev own : ℕ
  own = domain_of v.post.machine v.post.vcpu

  abbrev m : Words
  m = told_word v

  abbrev pub doomed : Words
  doomed = change (Cas 0 (v.post.vcpu + 1)) (Life d) m

  own_real : own < length n.page_limit
  own_real = All-get_or (λ e. e < length n.page_limit) n.vcpu_domain v.post.vcpu 0 clean.stands.real clean.stands.machine.of_domains

  -- ---- what is found
  pub record Looked (y found : ℕ) (w : Words) : Type 0 where
    pub privilege : x.privileges own ≡ y
    pub life : d < length n.page_limit → x.lives d ≡ found
    pub left : SameWords doomed w

  looked : (y found : ℕ) (w : Words) → ReplaysAs m (λ vs. LooksAndDooms v.post d y found vs) w → Looked y found w
  looked y found w a =
      let t = as_then m w (Only (visit (Priv own) Load y)) (Only (visit (Life d) (Cas 0 (v.post.vcpu + 1)) found)) a in
      let u = t.0 in
      let one = as_only m u (visit (Priv own) Load y) t.1 in
      let two = as_only u w (visit (Life d) (Cas 0 (v.post.vcpu + 1)) found) t.2 in
      let same : SameWords m u = λ q. one.1 q ∙ load_leaves (Priv own) m q in
      record {
        privilege = clean.stands.others.privileges own own_real ∙ one.0;
        life = λ real. clean.stands.others.lives d real ∙ sym (same (Life d)) ∙ two.0;
        left = λ q. two.1 q ∙ changed_by u same q;
      }
    where
      changed_by : (u : Words) → SameWords m u → SameWords doomed (change (Cas 0 (v.post.vcpu + 1)) (Life d) u)
      changed_by u same q = ap (λ k. if is_same q (Life d) then left_by (Cas 0 (v.post.vcpu + 1)) k else u q) (same (Life d)) ∙ ap (λ k. if is_same q (Life d) then left_by (Cas 0 (v.post.vcpu + 1)) (m (Life d)) else k) (same q)

  -- ---- why it is refused
  -- by its tests
  missing_is : nat_lt d (length n.page_limit) ≡ false → destroy_refusal (whose v) d x ≡ Some NoDomain
  missing_is off = rw off refl

  barred_is : nat_lt d (length n.page_limit) ≡ true → ((d == own) || not (has_now d (x.privileges own))) ≡ true → destroy_refusal (whose v) d x ≡ Some (NoPrivilege own d)
  barred_is real bars = rw real (rw bars refl)

  dying_is : nat_lt d (length n.page_limit) ≡ true → ((d == own) || not (has_now d (x.privileges own))) ≡ false → (x.lives d == 0) ≡ false → destroy_refusal (whose v) d x ≡ Some (Dying d (x.lives d))
  dying_is real free dead = rw real (rw free (rw dead refl))

  none_is : nat_lt d (length n.page_limit) ≡ true → ((d == own) || not (has_now d (x.privileges own))) ≡ false → (x.lives d == 0) ≡ true → destroy_refusal (whose v) d x ≡ None
  none_is real free lives = rw real (rw free (rw lives refl))

  real_test : d < length n.page_limit → nat_lt d (length n.page_limit) ≡ true
  real_test real = grind (arith, nat_tests)

  free_test : (y : ℕ) → d ≢ own → IsTrue (has_now d y) → x.privileges own ≡ y → ((d == own) || not (has_now d (x.privileges own))) ≡ false
  free_test y apart may is =
      let a : (d == own) ≡ false = grind (arith, nat_tests) in
      let b : has_now d (x.privileges own) ≡ true = ap (has_now d) is ∙ may in
      rw a (rw b refl)

  -- ---- what it comes to
  pub record IsRefusedBy (e : Stop) (w : Words) : Type 0 where
    pub why : Refusal
    pub is : e ≡ Refused why
    pub plain : destroy_refusal (whose v) d x ≡ Some why
    pub left : SameWords m w

  pub record IsBegunSo (w : Words) : Type 0 where
    pub real : d < length n.page_limit
    pub apart : own ≢ d
    pub plain : destroy_refusal (whose v) d x ≡ None
    pub left : SameWords doomed w

  abbrev BeginsTo : Result (Unit {0}) Stop → Words → Type 0
  BeginsTo (Ok done) w = IsBegunSo w
  BeginsTo (Err e) w = IsRefusedBy e w

  as_list : (w : Words) (vs : List Visit) (P : List Visit → Type 0) → P vs → Replays m vs w → ReplaysAs m P w
  as_list w vs P like replays = record { list = vs; like = like; replays = replays }

  unchanged : (found : ℕ) → m (Life d) ≡ found → found ≢ 0 → SameWords m doomed
  unfolding left_by
  unchanged found is apart q =
      let off : (m (Life d) == 0) ≡ false = (let e : m (Life d) ≢ 0 = λ z. apart (sym is ∙ z) in grind (arith, nat_tests)) in
      let same : left_by (Cas 0 (v.post.vcpu + 1)) (m (Life d)) ≡ m (Life d) = ap (λ b. if b then v.post.vcpu + 1 else m (Life d)) off in
      ap (λ k. if is_same q (Life d) then k else m q) same ∙ sym (by_test (is_same q (Life d)) (m (Life d)) (m q) (m q) (λ on. ap m (same_place q (Life d) on)) (λ apart. refl))

  begins_by : (w : Words) (answer : Result (Unit {0}) Stop) (vs : List Visit) → BeginsBy v.post d answer vs → Replays m vs w → BeginsTo answer w
  begins_by w _ _ (course.BeginsBy.begun y vs real apart may list) replays =
      let l = looked y 0 w (as_list w vs _ list replays) in
      record {
        real = real;
        apart = λ e. apart (sym e);
        plain = none_is (real_test real) (free_test y apart may l.privilege) (ap (λ k. k == 0) (l.life real));
        left = l.left;
      }
  begins_by w _ _ (course.BeginsBy.missing vs high list) replays =
      record { why = NoDomain; is = refl; plain = missing_is (let a = high in grind (arith, nat_tests)); left = as_nothing m w (as_list w vs _ list replays) }
  begins_by w _ _ (course.BeginsBy.own vs is list) replays =
      record {
        why = NoPrivilege own d;
        is = refl;
        plain = barred_is (let a = own_real in let b : d ≡ own = is in let c : d < length n.page_limit = omega (arith, a, b) in real_test c) (let b : (d == own) ≡ true = grind (arith, nat_tests) in rw b refl);
        left = as_nothing m w (as_list w vs _ list replays);
      }
  begins_by w _ _ (course.BeginsBy.barred y vs real apart off list) replays =
      let one = as_only m w (visit (Priv own) Load y) (as_list w vs _ list replays) in
      let is : has_now d (x.privileges own) ≡ false = ap (has_now d) (clean.stands.others.privileges own own_real ∙ one.0) ∙ off in
      let a : (d == own) ≡ false = grind (arith, nat_tests) in
      record { why = NoPrivilege own d; is = refl; plain = barred_is (real_test real) (rw a (rw is refl)); left = λ q. one.1 q ∙ load_leaves (Priv own) m q }
  begins_by w _ _ (course.BeginsBy.dying y found vs real apart may some list) replays =
      let l = looked y found w (as_list w vs _ list replays) in
      let lives = l.life real in
      record {
        why = Dying d found;
        is = refl;
        plain = dying_is (real_test real) (free_test y apart may l.privilege) (let e : x.lives d ≢ 0 = λ z. some (sym lives ∙ z) in grind (arith, nat_tests)) ∙ ap (λ k. Some (Dying d k)) lives;
        left = λ q. l.left q ∙ unchanged found (sym (clean.stands.others.lives d real) ∙ lives) some q;
      }

  pub begins : (w : PortValue) (answer : Result (Unit {0}) Stop) → Does v w (λ vs. BeginsBy v.post d answer vs) → BeginsTo answer (told_word w)
  begins w answer does =
      let a = does_replays v w (λ vs. BeginsBy v.post d answer vs) (alone_telling v clean.stands.alone) does in
      begins_by (told_word w) answer a.list a.like a.replays
