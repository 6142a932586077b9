-- Within one call the lowest number that applies is given, and the result only if none applies.
use mathlib.Core.Path.{◌≡◌, refl, sym, ◌∙◌, ap, subst}
use mathlib.Core.Bool.{Bool, true, false, cond, ◌&&◌}
use mathlib.Core.List.{List, [], ◌∷◌, ◌++◌}
use mathlib.Core.Logic.{◌⊎◌, inl, inr, ◌↔◌}
use Prim.Native.Nat.{ℕ, ◌<◌}
use native.Mathlib.Omega.{arith}
use lib.Dec.{ltb}
use lib.ListN.{length, take, drop}
use lib.Seq.{take-append_seam, drop-append_seam}
use borrow.Author.Tests.{ltb-true}
use Rattle.rules.specs.Answers.{Reply, Check, Verdict, given, refused, judge, after}
use Rattle.rules.proofs.Logic.{test, either}
use Rattle.std.proofs.lemmas.Bool.{and_parts}

-- No check of the list applies.
abbrev pub NoneApply : List Check → Type 0
NoneApply [] = Unit {0}
NoneApply (c ∷ cs) = (c.applies ≡ false) × NoneApply cs

-- The check stands in the list.
abbrev pub In : Check → List Check → Type 0
In c [] = ⊥
In c (d ∷ cs) = (c ≡ d) ⊎ In c cs

-- A verdict is never both a result and a refusal, and it names one result or one refusal.
pub given-not-refused {ℓ} : {A : Type 0} {C : Type ℓ} {v : Verdict A} {a : A} {r : Reply} → v ≡ given a → v ≡ refused r → C
given-not-refused p q = let z : ◌≡◌ {A = ℕ} 0 1 = cc in let w : ⊥ = omega arith in absurd w

pub given-inj : {A : Type 0} {a b : A} → given a ≡ given b → a ≡ b
given-inj p = cc

pub refused-inj : {A : Type 0} {r s : Reply} → ◌≡◌ {A = Verdict A} (refused r) (refused s) → r ≡ s
refused-inj p = cc

-- A result goes to the first cells; those past it stay as they were.
pub given-first : {A B : Type 0} (cells : A → List B) {v : Verdict A} {a : A} → v ≡ given a → (old : List B)
    → (take (length (cells a)) (after cells v old) ≡ cells a) × (drop (length (cells a)) (after cells v old) ≡ drop (length (cells a)) old)
given-first cells {a} e old =
    let rest = drop (length (cells a)) old in
    rw e (take-append_seam (cells a) rest, drop-append_seam (cells a) rest)

-- A refusal leaves a lent run as it was.
pub refused-leaves : {A B : Type 0} (cells : A → List B) {v : Verdict A} {r : Reply} → v ≡ refused r → (old : List B) → after cells v old ≡ old
refused-leaves cells e old = ap (λ v. after cells v old) e

-- The reply of the first check that applies.
pub record First (cs : List Check) (r : Reply) : Type 0 where
  pub before : List Check
  pub check : Check
  pub later : List Check
  pub parts : cs ≡ before ++ (check ∷ later)
  pub none : NoneApply before
  pub applies : check.applies ≡ true
  pub reply : check.reply ≡ r

first-here : {c : Check} {cs : List Check} {r : Reply} → c.applies ≡ true → c.reply ≡ r → First (c ∷ cs) r
first-here {c} {cs} t e = record { before = []; check = c; later = cs; parts = refl; none = tt; applies = t; reply = e }

first-later : {c : Check} {cs : List Check} {r : Reply} → c.applies ≡ false → First cs r → First (c ∷ cs) r
first-later {c} f x =
    record {
      before = c ∷ x.before;
      check = x.check;
      later = x.later;
      parts = ap (λ l. c ∷ l) x.parts;
      none = (f, x.none);
      applies = x.applies;
      reply = x.reply;
    }

-- The numbers ascend, and are above k; the numbers ascend, and none is 0.
abbrev pub ascend_from : ℕ → List Check → Bool
ascend_from k [] = true
ascend_from k (c ∷ cs) = ltb k c.reply.number && ascend_from c.reply.number cs

abbrev pub ascending : List Check → Bool
ascending cs = ascend_from 0 cs

ascend-above : (k : ℕ) (cs : List Check) (d : Check) → ascend_from k cs ≡ true → In d cs → k < d.reply.number
ascend-above k [] d up i = absurd i
ascend-above k (c ∷ cs) d up i =
    let (low, more) = and_parts (ltb k c.reply.number) (ascend_from c.reply.number cs) up in
    let below = ltb-true k c.reply.number low in
    either i (λ q. subst (λ x. k < x.reply.number) (sym q) below) λ j. let above = ascend-above c.reply.number cs d more j in omega arith

none_below : (c : Check) (cs : List Check) → ascend_from c.reply.number cs ≡ true → (d : Check) → In d (c ∷ cs) → d.reply.number < c.reply.number → ⊥
none_below c cs up d i l =
    either i (λ q. let same : d.reply.number ≡ c.reply.number = ap (λ x. x.reply.number) q in omega arith)
    λ j. let above = ascend-above c.reply.number cs d up j in omega arith

-- The reply of a check that applies, where no check with a lower number applies.
pub record Lowest (cs : List Check) (r : Reply) : Type 0 where
  pub check : Check
  pub stands : In check cs
  pub applies : check.applies ≡ true
  pub reply : check.reply ≡ r
  pub none_lower : (d : Check) → In d cs → d.reply.number < r.number → d.applies ≡ false

lowest-here : {c : Check} {cs : List Check} {r : Reply} → ascend_from c.reply.number cs ≡ true → c.applies ≡ true → c.reply ≡ r → Lowest (c ∷ cs) r
lowest-here {c} {cs} up t e =
    record {
      check = c;
      stands = inl refl;
      applies = t;
      reply = e;
      none_lower = λ d i l. absurd (none_below c cs up d i (subst (λ x. d.reply.number < x.number) (sym e) l));
    }

lowest-later : {c : Check} {cs : List Check} {r : Reply} → c.applies ≡ false → Lowest cs r → Lowest (c ∷ cs) r
lowest-later f x =
    record {
      check = x.check;
      stands = inr x.stands;
      applies = x.applies;
      reply = x.reply;
      none_lower = λ d i l. either i (λ q. ap (λ z. z.applies) q ∙ f) λ j. x.none_lower d j l;
    }

lowest-of-later : {c : Check} {cs : List Check} {r : Reply} (x : Lowest (c ∷ cs) r) → In x.check cs → Lowest cs r
lowest-of-later x i =
    record { check = x.check; stands = i; applies = x.applies; reply = x.reply; none_lower = λ d j l. x.none_lower d (inr j) l }

-- Of two lists: the second verdict, unless the first is a refusal.
abbrev pub if_given : {A : Type 0} → Verdict A → Verdict A → Verdict A
if_given (given a) later = later
if_given (refused r) later = refused r

module _ {A : Type 0} (a : A) where
  -- One check: it is passed, or it applies and its reply is given.
  pub judge-passes : (c : Check) (cs : List Check) → c.applies ≡ false → judge (c ∷ cs) a ≡ judge cs a
  unfolding judge
  judge-passes c cs h = ap (λ (b : Bool). cond b (refused c.reply) (judge cs a)) h

  pub judge-applies : (c : Check) (cs : List Check) → c.applies ≡ true → judge (c ∷ cs) a ≡ refused c.reply
  unfolding judge
  judge-applies c cs h = ap (λ (b : Bool). cond b (refused c.reply) (judge cs a)) h

  -- The result is given exactly if no check applies.
  pub judge-none : (cs : List Check) → NoneApply cs → judge cs a ≡ given a
  unfolding judge
  judge-none [] h = refl
  judge-none (c ∷ cs) h = judge-passes c cs h.0 ∙ judge-none cs h.1

  pub judge-given : (cs : List Check) {b : A} → judge cs a ≡ given b → (a ≡ b) × NoneApply cs
  unfolding judge
  judge-given [] h = (given-inj h, tt)
  judge-given (c ∷ cs) h =
      test c.applies (λ t. given-not-refused h (judge-applies c cs t))
      λ f. let more = judge-given cs (sym (judge-passes c cs f) ∙ h) in (more.0, (f, more.1))

  -- The first check that applies gives the reply.
  pub judge-first : (before : List Check) (c : Check) (later : List Check) → NoneApply before → c.applies ≡ true
      → judge (before ++ (c ∷ later)) a ≡ refused c.reply
  judge-first [] c later n h = judge-applies c later h
  judge-first (b ∷ before) c later n h = judge-passes b (before ++ (c ∷ later)) n.0 ∙ judge-first before c later n.1 h

  pub judge-refused : (cs : List Check) {r : Reply} → judge cs a ≡ refused r → First cs r
  judge-refused [] h = given-not-refused (judge-none [] tt) h
  judge-refused (c ∷ cs) h =
      test c.applies (λ t. first-here t (refused-inj {A = A} (sym (judge-applies c cs t) ∙ h)))
      λ f. first-later f (judge-refused cs (sym (judge-passes c cs f) ∙ h))

  -- Of two lists the second is judged if the first refuses nothing.
  pub judge-append : (xs ys : List Check) → judge (xs ++ ys) a ≡ if_given (judge xs a) (judge ys a)
  unfolding judge
  judge-append [] ys = refl
  judge-append (x ∷ xs) ys = test x.applies (λ t. rw t) λ f. rw f (judge-append xs ys)

  -- The reply given is that of the lowest number that applies,
  given-lowest : (k : ℕ) (cs : List Check) {r : Reply} → ascend_from k cs ≡ true → judge cs a ≡ refused r → Lowest cs r
  given-lowest k [] up h = given-not-refused (judge-none [] tt) h
  given-lowest k (c ∷ cs) up h =
      let more = (and_parts (ltb k c.reply.number) (ascend_from c.reply.number cs) up).1 in
      test c.applies (λ t. lowest-here more t (refused-inj {A = A} (sym (judge-applies c cs t) ∙ h)))
      λ f. lowest-later f (given-lowest c.reply.number cs more (sym (judge-passes c cs f) ∙ h))

  -- and the lowest number that applies is given.
  lowest-given : (k : ℕ) (cs : List Check) {r : Reply} → ascend_from k cs ≡ true → Lowest cs r → judge cs a ≡ refused r
  lowest-given k [] up l = absurd l.stands
  lowest-given k (c ∷ cs) {r} up l =
      let more = (and_parts (ltb k c.reply.number) (ascend_from c.reply.number cs) up).1 in
      let same : l.check.reply.number ≡ r.number = ap (λ x. x.number) l.reply in
      either l.stands (λ e. judge-applies c cs (sym (ap (λ x. x.applies) e) ∙ l.applies) ∙ ap refused (sym (ap (λ x. x.reply) e) ∙ l.reply))
      λ i. let above = ascend-above c.reply.number cs l.check more i in
      judge-passes c cs (l.none_lower c (inl refl) (omega arith)) ∙ lowest-given c.reply.number cs more (lowest-of-later l i)

  pub lowest : (cs : List Check) {r : Reply} → ascending cs ≡ true → (judge cs a ≡ refused r) ↔ Lowest cs r
  lowest cs up = (given-lowest 0 cs up, lowest-given 0 cs up)
