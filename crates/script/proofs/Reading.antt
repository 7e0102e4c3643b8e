-- What a line says, and what the lines of a text ask for, are determined.
use Rattle.std.proofs.Common.{◌≡◌, ℕ, ◌+◌, ◌<◌, inl, inr, List, [], ◌∷◌, ◌++◌, length, Option, Some, None, refl, ap, sym, subst, ◌∙◌, arith, append_assoc}
use Rattle.std.proofs.lemmas.List.{append-nil, length-append}
use Rattle.script.specs.Words.{IsLine}
use Rattle.script.specs.Scripts.{IsComment, Says, Numbered, call_at, AreOnlyCalls, HasFault, IsScript, IsFault, IsFirstFault}
use Rattle.script.proofs.Scan.{line_once}

-- what words ask for
module _ {A : Type 0} (Asks : List (List ℕ) → A → Type 0) where
  -- words ask for one thing, and none for nothing
  pub record IsApart : Type 0 where
    pub once : (words : List (List ℕ)) (a b : A) → Asks words a → Asks words b → a ≡ b
    pub some : (a : A) → ¬ Asks [] a

  -- a line that is skipped is no call
  skipped_once : IsApart → (line : List ℕ) (action : A) → Says Asks line None → Says Asks line (Some action) → ⊥
  skipped_once apart line action a b = elim a [
    | inl comment ↦ b.0 comment
    | inr none ↦ apart.some action (subst (λ x. Asks x action) (sym (line_once line [] b.1 none b.2)) b.3)
  ]

  -- a line says one thing
  pub says_once : IsApart → (line : List ℕ) (a b : Option A) → Says Asks line a → Says Asks line b → a ≡ b
  says_once apart line None None a b = refl
  says_once apart line None (Some y) a b = absurd (skipped_once apart line y a b)
  says_once apart line (Some x) None a b = absurd (skipped_once apart line x b a)
  says_once apart line (Some x) (Some y) a b =
      let same : b.1 ≡ a.1 = line_once line b.1 a.1 b.2 a.2 in
      ap (λ z. Some z) (apart.once a.1 x y a.3 (subst (λ ws. Asks ws y) same b.3))

  -- a line that has no words, and is no comment
  pub wordless : (line : List ℕ) → ¬ IsComment line → ((words : List (List ℕ)) → ¬ IsLine line words) → IsFault Asks line
  wordless line bare never None a = elim a [ inl comment ↦ bare comment | inr none ↦ never [] none ]
  wordless line bare never (Some x) a = never a.1 a.2

  -- a line whose words are of no form
  pub formless : (line : List ℕ) (words : List (List ℕ)) → ¬ IsComment line → IsLine line words → 0 < length words → ((action : A) → ¬ Asks words action) → IsFault Asks line
  formless line words bare is some never None a = elim a [
    | inl comment ↦ bare comment
    | inr none ↦ let h : [] ≡ words = line_once line [] words none is in let l : length {A = List ℕ} [] ≡ length words = ap length h in absurd (omega arith)
  ]
  formless line words bare is some never (Some x) a = never x (subst (λ ws. Asks ws x) (line_once line a.1 words a.2 is) a.3)

  -- one more line
  pub script_more : (k : ℕ) (front : List (List ℕ)) (calls : List (Numbered A)) (line : List ℕ) (said : Option A) → IsScript Asks k front calls → Says Asks line said → IsScript Asks k (front ++ line ∷ []) (calls ++ call_at (k + length front) said)
  script_more k [] calls line said is says =
      let at : k + 0 ≡ k = omega arith in
      let same : calls ++ call_at (k + 0) said ≡ call_at k said ++ [] = ap (λ x. x ++ call_at (k + 0) said) is ∙ (ap (λ n. call_at n said) at ∙ sym (append-nil (call_at k said))) in
      (said, [], says, refl, same)
  script_more k (l ∷ ls) calls line said is says =
      let before = is.0 in
      let rest = is.1 in
      let at : (k + 1) + length ls ≡ k + length (l ∷ ls) = omega arith in
      let more : IsScript Asks (k + 1) (ls ++ line ∷ []) (rest ++ call_at (k + length (l ∷ ls)) said) =
      subst (λ n. IsScript Asks (k + 1) (ls ++ line ∷ []) (rest ++ call_at n said)) at (script_more (k + 1) ls rest line said is.3 says) in
      let same : calls ++ call_at (k + length (l ∷ ls)) said ≡ call_at k before ++ (rest ++ call_at (k + length (l ∷ ls)) said) =
      ap (λ x. x ++ call_at (k + length (l ∷ ls)) said) is.4 ∙ append_assoc (call_at k before) rest (call_at (k + length (l ∷ ls)) said) in
      (before, rest ++ call_at (k + length (l ∷ ls)) said, is.2, more, same)

  -- lines are one list of calls
  pub script_once : IsApart → (lines : List (List ℕ)) (k : ℕ) (a b : List (Numbered A)) → IsScript Asks k lines a → IsScript Asks k lines b → a ≡ b
  script_once apart [] k a b x y = x ∙ sym y
  script_once apart (l ∷ ls) k a b x y =
      let said : x.0 ≡ y.0 = says_once apart l x.0 y.0 x.2 y.2 in
      let rest : x.1 ≡ y.1 = script_once apart ls (k + 1) x.1 y.1 x.3 y.3 in
      x.4 ∙ (ap (λ s. call_at k s ++ x.1) said ∙ (ap (λ r. call_at k y.0 ++ r) rest ∙ sym y.4))

  -- calls that lines ask for are the only ones
  pub only_calls : IsApart → (lines : List (List ℕ)) (calls : List (Numbered A)) → IsScript Asks 1 lines calls → AreOnlyCalls Asks lines calls
  only_calls apart lines calls is = record { are = is; only = λ others other. script_once apart lines 1 others calls other is }

  -- lines with a fault are none
  fault_within : (front : List (List ℕ)) (k : ℕ) (line : List ℕ) (more : List (List ℕ)) (calls : List (Numbered A)) → IsFault Asks line → IsScript Asks k (front ++ line ∷ more) calls → ⊥
  fault_within [] k line more calls fault is = fault is.0 is.2
  fault_within (l ∷ ls) k line more calls fault is = fault_within ls (k + 1) line more is.1 fault is.3

  fault_none : (lines : List (List ℕ)) (number : ℕ) (calls : List (Numbered A)) → IsFirstFault Asks lines number → ¬ IsScript Asks 1 lines calls
  fault_none lines number calls f is = fault_within f.0 1 f.1 f.2 calls f.7 (subst (λ x. IsScript Asks 1 x calls) f.4 is)

  -- the lines in front of a text are those calls
  pub record ReadUpTo (lines rest : List (List ℕ)) (taken : ℕ) (calls : List (Numbered A)) : Type 0 where
    pub front : List (List ℕ)
    pub split : lines ≡ front ++ rest
    pub counted : taken ≡ length front
    pub read : IsScript Asks 1 front calls

  pub read_more : (lines rest more : List (List ℕ)) (line : List ℕ) (taken next : ℕ) (calls after : List (Numbered A)) (said : Option A) → ReadUpTo lines rest taken calls → rest ≡ line ∷ more → Says Asks line said → next ≡ taken + 1 → after ≡ calls ++ call_at (taken + 1) said → ReadUpTo lines more next after
  read_more lines rest more line taken next calls after said r cut says step same =
      let counted = r.counted in
      let at : 1 + length r.front ≡ taken + 1 = omega arith in
      let reads : IsScript Asks 1 (r.front ++ line ∷ []) (calls ++ call_at (taken + 1) said) =
      subst (λ n. IsScript Asks 1 (r.front ++ line ∷ []) (calls ++ call_at n said)) at (script_more 1 r.front calls line said r.read says) in
      record {
        front = r.front ++ line ∷ [];
        split = r.split ∙ (ap (λ x. r.front ++ x) cut ∙ sym (append_assoc r.front (line ∷ []) more));
        counted = omega (arith, length-append r.front (line ∷ []));
        read = subst (λ x. IsScript Asks 1 (r.front ++ line ∷ []) x) (sym same) reads;
      }

  pub read_all : (lines rest : List (List ℕ)) (taken : ℕ) (calls : List (Numbered A)) → ReadUpTo lines rest taken calls → rest ≡ [] → IsScript Asks 1 lines calls
  read_all lines rest taken calls r done =
      let split : lines ≡ r.front = r.split ∙ (ap (λ x. r.front ++ x) done ∙ append-nil r.front) in
      subst (λ x. IsScript Asks 1 x calls) (sym split) r.read

  pub read_fault : (lines rest more : List (List ℕ)) (line : List ℕ) (taken number : ℕ) (calls : List (Numbered A)) → ReadUpTo lines rest taken calls → rest ≡ line ∷ more → number ≡ taken + 1 → IsFault Asks line → HasFault Asks lines number
  read_fault lines rest more line taken number calls r cut step fault =
      let counted = r.counted in
      let at : number ≡ length r.front + 1 = omega arith in
      let first : IsFirstFault Asks lines number = (r.front, line, more, calls, r.split ∙ ap (λ x. r.front ++ x) cut, at, r.read, fault) in
      record { first = first; none = λ others is. fault_none lines number others first is }
