-- The machine gives the words of a line, and no others.
use Rattle.std.proofs.Common.{◌≡◌, ℕ, zero, suc, ◌<◌, ◌≤◌, Bool, true, false, cond, not, ◌||◌, ◌==◌, ◌⊎◌, inl, inr, take, arith, rules, List, [], ◌∷◌, ◌++◌, length, get_or, drop, replicate, map, string_bytes, Option, Some, None, refl, ap, sym, subst, ◌∙◌, append_assoc}
use Rattle.std.proofs.lemmas.List.{append-nil}
use Rattle.std.proofs.Math.ListN.{get_or-eq_default}
use Rattle.std.proofs.lemmas.Bool.{cases_lt, cond_both, cond-true, cond-false, cases_Bool, and_parts, and_from, or_parts, or_cases, eqb-true, not-true}
use Rattle.std.specs.List.{list_all}
use Rattle.std.specs.Str.{IsUtf8}
use Rattle.std.specs.Cow.{cow_str_bytes}
use Rattle.std.proofs.lemmas.Str.{IsUtf8-from_ascii}
use Rattle.row.specs.Printed.{is_escaped, escaped, quoted, is_bare}
use Rattle.plan.specs.Kinds.{is_printed}
use Rattle.script.specs.Words.{IsCut, IsForm, IsLine}
use Rattle.script.specs.Machine.{class_of, is_plain, step_at, follow, ending, front, scan, gives}
use Rattle.script.specs.declared.words.Place.{Place}
use Rattle.script.specs.declared.words.Place.TheVariants.{Between, Bare, Quoted, Escaped, Closed}
use Rattle.script.specs.declared.words.ByteClass.{ByteClass}
use Rattle.script.specs.declared.words.ByteClass.TheVariants.{Space, Mark, Backslash, Plain, Other}
use Rattle.script.specs.declared.words.Step.{Step}
use Rattle.script.specs.declared.words.Reader.{Reader}
use Rattle.script.specs.declared.words.Step.TheVariants.{Go, Keep, End, Fault}

-- no space, quotation mark or backslash
abbrev pub is_open : ℕ → Bool
is_open c = not (c == 32 || is_escaped c)

-- what a class says of its bytes
abbrev pub IsOf : ByteClass → ℕ → Type 0
IsOf Space b = b ≡ 32
IsOf Mark b = b ≡ 34
IsOf Backslash b = b ≡ 92
IsOf Plain b = (is_printed b ≡ true) × (is_open b ≡ true)
IsOf Other b = is_printed b ≡ false

open_from : (b : ℕ) → (b == 32) ≡ false → (b == 34) ≡ false → (b == 92) ≡ false → is_open b ≡ true
open_from b s m k = rw (s, m, k) refl

of_class : (b : ℕ) → IsOf (class_of b) b
of_class b = let P : ByteClass → Type 0 = λ c. IsOf c b in
    cond_both (b == 32) Space (cond (b == 34) Mark (cond (b == 92) Backslash (cond (is_printed b) Plain Other))) P (λ e. eqb-true b 32 e) (λ s.
    cond_both (b == 34) Mark (cond (b == 92) Backslash (cond (is_printed b) Plain Other)) P (λ e. eqb-true b 34 e) (λ m.
    cond_both (b == 92) Backslash (cond (is_printed b) Plain Other) P (λ e. eqb-true b 92 e) (λ k.
    cond_both (is_printed b) Plain Other P (λ e. (e, open_from b s m k)) (λ e. e))))

class_space : (b : ℕ) → b ≡ 32 → class_of b ≡ Space
class_space b h = ap class_of h

class_mark : (b : ℕ) → b ≡ 34 → class_of b ≡ Mark
class_mark b h = ap class_of h

class_backslash : (b : ℕ) → b ≡ 92 → class_of b ≡ Backslash
class_backslash b h = ap class_of h

-- a printed byte that is open is plain
plain_is : (b : ℕ) (c : ByteClass) → IsOf c b → is_printed b ≡ true → is_open b ≡ true → c ≡ Plain
plain_is b Space f p o = let k : is_open 32 ≡ true = rw f at o in cc
plain_is b Mark f p o = let k : is_open 34 ≡ true = rw f at o in cc
plain_is b Backslash f p o = let k : is_open 92 ≡ true = rw f at o in cc
plain_is b Plain f p o = refl
plain_is b Other f p o = cc

class_plain : (b : ℕ) → is_printed b ≡ true → is_open b ≡ true → class_of b ≡ Plain
class_plain b = plain_is b (class_of b) (of_class b)

-- one that is escaped is a quotation mark or a backslash
class_escaped : (b : ℕ) → is_escaped b ≡ true → (class_of b ≡ Mark) ⊎ (class_of b ≡ Backslash)
class_escaped b e = elim (or_cases (b == 34) (b == 92) e) [ inl m ↦ inl (class_mark b (eqb-true b 34 m)) | inr k ↦ inr (class_backslash b (eqb-true b 92 k)) ]

-- a printed byte that isn't escaped is a space or plain
kept_is : (b : ℕ) (c : ByteClass) → IsOf c b → is_printed b ≡ true → is_escaped b ≡ false → (c ≡ Space) ⊎ (c ≡ Plain)
kept_is b Space f p o = inl refl
kept_is b Mark f p o = let k : is_escaped 34 ≡ false = rw f at o in cc
kept_is b Backslash f p o = let k : is_escaped 92 ≡ false = rw f at o in cc
kept_is b Plain f p o = inr refl
kept_is b Other f p o = cc

class_kept : (b : ℕ) → is_printed b ≡ true → is_escaped b ≡ false → (class_of b ≡ Space) ⊎ (class_of b ≡ Plain)
class_kept b = kept_is b (class_of b) (of_class b)

-- the bytes go on with the rest of a bare word, and then as a line
abbrev pub InBare : List ℕ → List ℕ → List (List ℕ) → Type 0
InBare bs word ws = (u : List ℕ) × (rest : List ℕ) × (vs : List (List ℕ)) × (bs ≡ u ++ rest) × (list_all is_printed u ≡ true) × (list_all is_open u ≡ true) × IsCut rest × IsLine rest vs × (ws ≡ (word ++ u) ∷ vs)

-- with the rest of a word between quotation marks
abbrev pub InQuotes : List ℕ → List ℕ → List (List ℕ) → Type 0
InQuotes bs word ws = (u : List ℕ) × (rest : List ℕ) × (vs : List (List ℕ)) × (bs ≡ escaped u ++ (34 ∷ rest)) × (list_all is_printed u ≡ true) × IsCut rest × IsLine rest vs × (ws ≡ (word ++ u) ∷ vs)

-- with an escaped byte, and then so
abbrev pub InEscape : List ℕ → List ℕ → List (List ℕ) → Type 0
InEscape bs word ws = (c : ℕ) × (cs : List ℕ) × (bs ≡ c ∷ cs) × (is_escaped c ≡ true) × InQuotes cs (word ++ c ∷ []) ws

abbrev pub Rest : Place → List ℕ → List ℕ → List (List ℕ) → Type 0
Rest Between bs word ws = (word ≡ []) × IsLine bs ws
Rest Bare bs word ws = InBare bs word ws
Rest Quoted bs word ws = InQuotes bs word ws
Rest Escaped bs word ws = InEscape bs word ws
Rest Closed bs word ws = (word ≡ []) × IsCut bs × IsLine bs ws

-- the same behind a step
abbrev pub After : Step → ℕ → List ℕ → List ℕ → List (List ℕ) → Type 0
After (Go p) b bs word ws = Rest p bs word ws
After (Keep p) b bs word ws = Rest p bs (word ++ b ∷ []) ws
After (End p) b bs word ws = (vs : List (List ℕ)) × (ws ≡ word ∷ vs) × Rest p bs [] vs
After Fault b bs word ws = ⊥

at_class : (p : Place) (c : ByteClass) (b : ℕ) (bs word : List ℕ) (ws : List (List ℕ)) → class_of b ≡ c → After (step_at p c) b bs word ws → After (step_at p (class_of b)) b bs word ws
at_class p c b bs word ws h a = let P : ByteClass → Type 0 = λ x. After (step_at p x) b bs word ws in subst P (sym h) a

-- from a line to the rest behind its first byte

between_spaces : (n b : ℕ) (bs : List ℕ) → b ∷ bs ≡ replicate n 32 → After (step_at Between (class_of b)) b bs [] []
between_spaces zero b bs e = cc
between_spaces (suc n) b bs e = let h : b ≡ 32 = cc in let t : bs ≡ replicate n 32 = cc in at_class Between Space b bs [] [] (class_space b h) (refl, (n, t))

between_bare : (w : List ℕ) (b : ℕ) (bs rest : List ℕ) (vs : List (List ℕ)) → b ∷ bs ≡ w ++ rest → list_all is_printed w ≡ true → is_bare w ≡ true → IsCut rest → IsLine rest vs → After (step_at Between (class_of b)) b bs [] (w ∷ vs)
between_bare [] b bs rest vs e pr ba cut line = cc
between_bare (c ∷ u) b bs rest vs e pr ba cut line =
    let h : b ≡ c = cc in
    let t : bs ≡ u ++ rest = cc in
    let p = and_parts (is_printed c) (list_all is_printed u) pr in
    let o = and_parts (is_open c) (list_all is_open u) ba in
    let cls : class_of b ≡ Plain = ap class_of h ∙ class_plain c p.0 o.0 in
    let same : ◌≡◌ {A = List (List ℕ)} ((c ∷ u) ∷ vs) ((b ∷ u) ∷ vs) = ap (λ x. (x ∷ u) ∷ vs) (sym h) in
    at_class Between Plain b bs [] ((c ∷ u) ∷ vs) cls (u, rest, vs, t, p.1, o.1, cut, line, same)

between_quoted : (w : List ℕ) (b : ℕ) (bs rest : List ℕ) (vs : List (List ℕ)) → b ∷ bs ≡ quoted w ++ rest → list_all is_printed w ≡ true → IsCut rest → IsLine rest vs → After (step_at Between (class_of b)) b bs [] (w ∷ vs)
between_quoted w b bs rest vs e pr cut line =
    let h : b ≡ 34 = cc in
    let t : bs ≡ (escaped w ++ 34 ∷ []) ++ rest = cc in
    at_class Between Mark b bs [] (w ∷ vs) (class_mark b h) (w, rest, vs, t ∙ append_assoc (escaped w) (34 ∷ []) rest, pr, cut, line, refl)

between_form : (w form : List ℕ) (b : ℕ) (bs rest : List ℕ) (vs : List (List ℕ)) → b ∷ bs ≡ form ++ rest → IsForm form w → IsCut rest → IsLine rest vs → After (step_at Between (class_of b)) b bs [] (w ∷ vs)
between_form w form b bs rest vs e f cut line = elim f.1 [
  | inl q ↦ between_bare w b bs rest vs (e ∙ ap (λ x. x ++ rest) q.1) f.0 q.0 cut line
  | inr q ↦ between_quoted w b bs rest vs (e ∙ ap (λ x. x ++ rest) q) f.0 cut line
]

between_word : (n : ℕ) (w form : List ℕ) (b : ℕ) (bs rest : List ℕ) (vs : List (List ℕ)) → b ∷ bs ≡ replicate n 32 ++ (form ++ rest) → IsForm form w → IsCut rest → IsLine rest vs → After (step_at Between (class_of b)) b bs [] (w ∷ vs)
between_word zero w form b bs rest vs e f cut line = between_form w form b bs rest vs e f cut line
between_word (suc n) w form b bs rest vs e f cut line =
    let h : b ≡ 32 = cc in
    let t : bs ≡ replicate n 32 ++ (form ++ rest) = cc in
    at_class Between Space b bs [] (w ∷ vs) (class_space b h) (refl, (n, form, rest, t, f, cut, line))

between : (ws : List (List ℕ)) (b : ℕ) (bs : List ℕ) → IsLine (b ∷ bs) ws → After (step_at Between (class_of b)) b bs [] ws
between [] b bs line = between_spaces line.0 b bs line.1
between (w ∷ vs) b bs line = between_word line.0 w line.1 b bs line.2 vs line.3 line.4 line.5 line.6

-- a line that begins with a space goes on as one
pub line_tail : (ws : List (List ℕ)) (b : ℕ) (bs : List ℕ) → b ≡ 32 → IsLine (b ∷ bs) ws → IsLine bs ws
line_tail ws b bs h line =
    let P : ByteClass → Type 0 = λ x. After (step_at Between x) b bs [] ws in
    let a : After (step_at Between Space) b bs [] ws = subst P (class_space b h) (between ws b bs line) in a.1

into_bare : (u : List ℕ) (b : ℕ) (bs rest word : List ℕ) (ws vs : List (List ℕ)) → b ∷ bs ≡ u ++ rest → list_all is_printed u ≡ true → list_all is_open u ≡ true → IsCut rest → IsLine rest vs → ws ≡ (word ++ u) ∷ vs → After (step_at Bare (class_of b)) b bs word ws
into_bare [] b bs rest word ws vs e pr op cut line is =
    let h : b ≡ 32 = subst IsCut (sym e) cut in
    let l : IsLine (b ∷ bs) vs = subst (λ x. IsLine x vs) (sym e) line in
    at_class Bare Space b bs word ws (class_space b h) (vs, is ∙ ap (λ x. x ∷ vs) (append-nil word), (refl, line_tail vs b bs h l))
into_bare (c ∷ u) b bs rest word ws vs e pr op cut line is =
    let h : b ≡ c = cc in
    let t : bs ≡ u ++ rest = cc in
    let p = and_parts (is_printed c) (list_all is_printed u) pr in
    let o = and_parts (is_open c) (list_all is_open u) op in
    let cls : class_of b ≡ Plain = ap class_of h ∙ class_plain c p.0 o.0 in
    let same : ws ≡ ((word ++ b ∷ []) ++ u) ∷ vs = is ∙ ap (λ x. x ∷ vs) (ap (λ x. word ++ (x ∷ u)) (sym h) ∙ sym (append_assoc word (b ∷ []) u)) in
    at_class Bare Plain b bs word ws cls (u, rest, vs, t, p.1, o.1, cut, line, same)

into_quotes : (u : List ℕ) (b : ℕ) (bs rest word : List ℕ) (ws vs : List (List ℕ)) → b ∷ bs ≡ escaped u ++ (34 ∷ rest) → list_all is_printed u ≡ true → IsCut rest → IsLine rest vs → ws ≡ (word ++ u) ∷ vs → After (step_at Quoted (class_of b)) b bs word ws
into_quotes [] b bs rest word ws vs e pr cut line is =
    let h : b ≡ 34 = cc in
    let t : rest ≡ bs = cc in
    at_class Quoted Mark b bs word ws (class_mark b h) (vs, is ∙ ap (λ x. x ∷ vs) (append-nil word), (refl, subst IsCut t cut, subst (λ x. IsLine x vs) t line))
into_quotes (c ∷ u) b bs rest word ws vs e pr cut line is =
    let p = and_parts (is_printed c) (list_all is_printed u) pr in
    elim (cases_Bool (is_escaped c)) [
      | inl esc ↦
          let g : b ∷ bs ≡ (92 ∷ c ∷ escaped u) ++ (34 ∷ rest) = e ∙ ap (λ x. x ++ (34 ∷ rest)) (cond-true (is_escaped c) (92 ∷ c ∷ escaped u) (c ∷ escaped u) esc) in
          let h : b ≡ 92 = cc in
          let t : bs ≡ c ∷ (escaped u ++ (34 ∷ rest)) = cc in
          let same : ws ≡ ((word ++ c ∷ []) ++ u) ∷ vs = is ∙ ap (λ x. x ∷ vs) (sym (append_assoc word (c ∷ []) u)) in
          at_class Quoted Backslash b bs word ws (class_backslash b h) (c, escaped u ++ (34 ∷ rest), t, esc, (u, rest, vs, refl, p.1, cut, line, same))
      | inr bare ↦
          let g : b ∷ bs ≡ (c ∷ escaped u) ++ (34 ∷ rest) = e ∙ ap (λ x. x ++ (34 ∷ rest)) (cond-false (is_escaped c) (92 ∷ c ∷ escaped u) (c ∷ escaped u) bare) in
          let h : b ≡ c = cc in
          let t : bs ≡ escaped u ++ (34 ∷ rest) = cc in
          let same : ws ≡ ((word ++ b ∷ []) ++ u) ∷ vs = is ∙ ap (λ x. x ∷ vs) (ap (λ x. word ++ (x ∷ u)) (sym h) ∙ sym (append_assoc word (b ∷ []) u)) in
          let next : InQuotes bs (word ++ b ∷ []) ws = (u, rest, vs, t, p.1, cut, line, same) in
          elim (class_kept c p.0 bare) [
            | inl s ↦ at_class Quoted Space b bs word ws (ap class_of h ∙ s) next
            | inr s ↦ at_class Quoted Plain b bs word ws (ap class_of h ∙ s) next
          ]
    ]

into_escape : (c : ℕ) (cs : List ℕ) (b : ℕ) (bs word : List ℕ) (ws : List (List ℕ)) → b ∷ bs ≡ c ∷ cs → is_escaped c ≡ true → InQuotes cs (word ++ c ∷ []) ws → After (step_at Escaped (class_of b)) b bs word ws
into_escape c cs b bs word ws e esc q =
    let h : c ≡ b = cc in
    let t : cs ≡ bs = cc in
    let p : InQuotes bs (word ++ c ∷ []) ws = subst (λ x. InQuotes x (word ++ c ∷ []) ws) t q in
    let next : InQuotes bs (word ++ b ∷ []) ws = subst (λ x. InQuotes bs (word ++ x ∷ []) ws) h p in
    elim (class_escaped c esc) [
      | inl s ↦ at_class Escaped Mark b bs word ws (sym (ap class_of h) ∙ s) next
      | inr s ↦ at_class Escaped Backslash b bs word ws (sym (ap class_of h) ∙ s) next
    ]

-- what is left goes on behind its first byte
into : (p : Place) (b : ℕ) (bs word : List ℕ) (ws : List (List ℕ)) → Rest p (b ∷ bs) word ws → After (step_at p (class_of b)) b bs word ws
into Between b bs word ws r = subst (λ x. After (step_at Between (class_of b)) b bs x ws) (sym r.0) (between ws b bs r.1)
into Bare b bs word ws r = into_bare r.0 b bs r.1 word ws r.2 r.3 r.4 r.5 r.6 r.7 r.8
into Quoted b bs word ws r = into_quotes r.0 b bs r.1 word ws r.2 r.3 r.4 r.5 r.6 r.7
into Escaped b bs word ws r = into_escape r.0 r.1 b bs word ws r.2 r.3 r.4
into Closed b bs word ws r = at_class Closed Space b bs word ws (class_space b r.1) (r.0, line_tail ws b bs r.1 r.2)

-- and back

pub cons_space : (ws : List (List ℕ)) (b : ℕ) (bs : List ℕ) → b ≡ 32 → IsLine bs ws → IsLine (b ∷ bs) ws
cons_space [] b bs h line = let t : bs ≡ replicate line.0 32 = line.1 in let g : b ∷ bs ≡ 32 ∷ replicate line.0 32 = cc in (suc line.0, g)
cons_space (w ∷ vs) b bs h line =
    let t : bs ≡ replicate line.0 32 ++ (line.1 ++ line.2) = line.3 in
    let g : b ∷ bs ≡ 32 ∷ (replicate line.0 32 ++ (line.1 ++ line.2)) = cc in
    (suc line.0, line.1, line.2, g, line.4, line.5, line.6)

from_mark : (b : ℕ) (bs word : List ℕ) (ws : List (List ℕ)) → b ≡ 34 → word ≡ [] → InQuotes bs word ws → IsLine (b ∷ bs) ws
from_mark b bs word ws h empty q =
    let u = q.0 in
    let t : bs ≡ escaped u ++ (34 ∷ q.1) = q.3 in
    let k : (escaped u ++ 34 ∷ []) ++ q.1 ≡ escaped u ++ (34 ∷ q.1) = append_assoc (escaped u) (34 ∷ []) q.1 in
    let g : b ∷ bs ≡ quoted u ++ q.1 = cc in
    let same : ws ≡ u ∷ q.2 = q.7 ∙ ap (λ x. (x ++ u) ∷ q.2) empty in
    let l : IsLine (b ∷ bs) (u ∷ q.2) = (0, quoted u, q.1, g, (q.4, inr refl), q.5, q.6) in
    subst (λ x. IsLine (b ∷ bs) x) (sym same) l

from_plain : (b : ℕ) (bs word : List ℕ) (ws : List (List ℕ)) → is_printed b ≡ true → is_open b ≡ true → word ≡ [] → InBare bs (word ++ b ∷ []) ws → IsLine (b ∷ bs) ws
from_plain b bs word ws p o empty q =
    let u = q.0 in
    let g : b ∷ bs ≡ (b ∷ u) ++ q.1 = ap (λ x. b ∷ x) q.3 in
    let same : ws ≡ (b ∷ u) ∷ q.2 = q.8 ∙ ap (λ x. ((x ++ b ∷ []) ++ u) ∷ q.2) empty in
    let pr : list_all is_printed (b ∷ u) ≡ true = and_from (is_printed b) (list_all is_printed u) p q.4 in
    let ba : is_bare (b ∷ u) ≡ true = and_from (is_open b) (list_all is_open u) o q.5 in
    let l : IsLine (b ∷ bs) ((b ∷ u) ∷ q.2) = (0, b ∷ u, q.1, g, (pr, inl (ba, refl)), q.6, q.7) in
    subst (λ x. IsLine (b ∷ bs) x) (sym same) l

bare_more : (b : ℕ) (bs word : List ℕ) (ws : List (List ℕ)) → is_printed b ≡ true → is_open b ≡ true → InBare bs (word ++ b ∷ []) ws → InBare (b ∷ bs) word ws
bare_more b bs word ws p o q =
    let u = q.0 in
    let same : ws ≡ (word ++ (b ∷ u)) ∷ q.2 = q.8 ∙ ap (λ x. x ∷ q.2) (append_assoc word (b ∷ []) u) in
    (b ∷ u, q.1, q.2, ap (λ x. b ∷ x) q.3, and_from (is_printed b) (list_all is_printed u) p q.4, and_from (is_open b) (list_all is_open u) o q.5, q.6, q.7, same)

bare_end : (b : ℕ) (bs word : List ℕ) (ws vs : List (List ℕ)) → b ≡ 32 → ws ≡ word ∷ vs → IsLine bs vs → InBare (b ∷ bs) word ws
bare_end b bs word ws vs h is line = ([], b ∷ bs, vs, refl, refl, refl, h, cons_space vs b bs h line, is ∙ ap (λ x. x ∷ vs) (sym (append-nil word)))

quotes_end : (b : ℕ) (bs word : List ℕ) (ws vs : List (List ℕ)) → b ≡ 34 → ws ≡ word ∷ vs → IsCut bs → IsLine bs vs → InQuotes (b ∷ bs) word ws
quotes_end b bs word ws vs h is cut line = ([], bs, vs, ap (λ x. x ∷ bs) h, refl, cut, line, is ∙ ap (λ x. x ∷ vs) (sym (append-nil word)))

quotes_more : (b : ℕ) (bs word : List ℕ) (ws : List (List ℕ)) → is_printed b ≡ true → is_escaped b ≡ false → InQuotes bs (word ++ b ∷ []) ws → InQuotes (b ∷ bs) word ws
quotes_more b bs word ws p o q =
    let u = q.0 in
    let same : ws ≡ (word ++ (b ∷ u)) ∷ q.2 = q.7 ∙ ap (λ x. x ∷ q.2) (append_assoc word (b ∷ []) u) in
    let g : b ∷ bs ≡ escaped (b ∷ u) ++ (34 ∷ q.1) = ap (λ x. b ∷ x) q.3 ∙ ap (λ x. x ++ (34 ∷ q.1)) (sym (cond-false (is_escaped b) (92 ∷ b ∷ escaped u) (b ∷ escaped u) o)) in
    (b ∷ u, q.1, q.2, g, and_from (is_printed b) (list_all is_printed u) p q.4, q.5, q.6, same)

escaped_printed : (c : ℕ) → is_escaped c ≡ true → is_printed c ≡ true
escaped_printed c e = elim (or_cases (c == 34) (c == 92) e) [ inl m ↦ ap is_printed (eqb-true c 34 m) | inr k ↦ ap is_printed (eqb-true c 92 k) ]

quotes_escape : (b : ℕ) (bs word : List ℕ) (ws : List (List ℕ)) → b ≡ 92 → InEscape bs word ws → InQuotes (b ∷ bs) word ws
quotes_escape b bs word ws h r =
    let c = r.0 in
    let q = r.4 in
    let u = q.0 in
    let t : bs ≡ c ∷ r.1 = r.2 in
    let k : r.1 ≡ escaped u ++ (34 ∷ q.1) = q.3 in
    let f : b ∷ bs ≡ (92 ∷ c ∷ escaped u) ++ (34 ∷ q.1) = cc in
    let g : b ∷ bs ≡ escaped (c ∷ u) ++ (34 ∷ q.1) = f ∙ ap (λ x. x ++ (34 ∷ q.1)) (sym (cond-true (is_escaped c) (92 ∷ c ∷ escaped u) (c ∷ escaped u) r.3)) in
    let same : ws ≡ (word ++ (c ∷ u)) ∷ q.2 = q.7 ∙ ap (λ x. x ∷ q.2) (append_assoc word (c ∷ []) u) in
    (c ∷ u, q.1, q.2, g, and_from (is_printed c) (list_all is_printed u) (escaped_printed c r.3) q.4, q.5, q.6, same)

open_escaped : (b : ℕ) → is_open b ≡ true → is_escaped b ≡ false
open_escaped b o = (or_parts (b == 32) (is_escaped b) (not-true (b == 32 || is_escaped b) o)).1

-- between words no word has begun
abbrev pub IsClean : Place → List ℕ → Type 0
IsClean Between word = word ≡ []
IsClean Closed word = word ≡ []
IsClean Bare word = Unit {0}
IsClean Quoted word = Unit {0}
IsClean Escaped word = Unit {0}

back : (p : Place) (c : ByteClass) (b : ℕ) (bs word : List ℕ) (ws : List (List ℕ)) → IsOf c b → IsClean p word → After (step_at p c) b bs word ws → Rest p (b ∷ bs) word ws
back Between Space b bs word ws f e a = (e, cons_space ws b bs f a.1)
back Between Mark b bs word ws f e a = (e, from_mark b bs word ws f e a)
back Between Plain b bs word ws f e a = (e, from_plain b bs word ws f.0 f.1 e a)
back Between Backslash b bs word ws f e a = absurd a
back Between Other b bs word ws f e a = absurd a
back Bare Space b bs word ws f e a = bare_end b bs word ws a.0 f a.1 a.2.1
back Bare Plain b bs word ws f e a = bare_more b bs word ws f.0 f.1 a
back Bare Mark b bs word ws f e a = absurd a
back Bare Backslash b bs word ws f e a = absurd a
back Bare Other b bs word ws f e a = absurd a
back Quoted Mark b bs word ws f e a = quotes_end b bs word ws a.0 f a.1 a.2.1 a.2.2
back Quoted Backslash b bs word ws f e a = quotes_escape b bs word ws f a
back Quoted Space b bs word ws f e a = quotes_more b bs word ws (ap is_printed f) (ap is_escaped f) a
back Quoted Plain b bs word ws f e a = quotes_more b bs word ws f.0 (open_escaped b f.1) a
back Quoted Other b bs word ws f e a = absurd a
back Escaped Mark b bs word ws f e a = (b, bs, refl, ap is_escaped f, a)
back Escaped Backslash b bs word ws f e a = (b, bs, refl, ap is_escaped f, a)
back Escaped Space b bs word ws f e a = absurd a
back Escaped Plain b bs word ws f e a = absurd a
back Escaped Other b bs word ws f e a = absurd a
back Closed Space b bs word ws f e a = (e, f, cons_space ws b bs f a.1)
back Closed Mark b bs word ws f e a = absurd a
back Closed Backslash b bs word ws f e a = absurd a
back Closed Plain b bs word ws f e a = absurd a
back Closed Other b bs word ws f e a = absurd a

-- a step keeps that
abbrev pub IsCleanAfter : Step → ℕ → List ℕ → Type 0
IsCleanAfter (Go p) b word = IsClean p word
IsCleanAfter (Keep p) b word = IsClean p (word ++ b ∷ [])
IsCleanAfter (End p) b word = IsClean p []
IsCleanAfter Fault b word = Unit {0}

clean_after : (p : Place) (c : ByteClass) (b : ℕ) (word : List ℕ) → IsClean p word → IsCleanAfter (step_at p c) b word
clean_after Between Space b word e = e
clean_after Between Mark b word e = tt
clean_after Between Plain b word e = tt
clean_after Between Backslash b word e = tt
clean_after Between Other b word e = tt
clean_after Bare Space b word e = refl
clean_after Bare Plain b word e = tt
clean_after Bare Mark b word e = tt
clean_after Bare Backslash b word e = tt
clean_after Bare Other b word e = tt
clean_after Quoted Mark b word e = refl
clean_after Quoted Backslash b word e = tt
clean_after Quoted Space b word e = tt
clean_after Quoted Plain b word e = tt
clean_after Quoted Other b word e = tt
clean_after Escaped Mark b word e = tt
clean_after Escaped Backslash b word e = tt
clean_after Escaped Space b word e = tt
clean_after Escaped Plain b word e = tt
clean_after Escaped Other b word e = tt
clean_after Closed Space b word e = e
clean_after Closed Mark b word e = tt
clean_after Closed Backslash b word e = tt
clean_after Closed Plain b word e = tt
clean_after Closed Other b word e = tt

-- the machine gives the words of what is left

front_some : (word : List ℕ) (r : Option (List (List ℕ))) (ws : List (List ℕ)) → front (word ∷ []) r ≡ Some ws → (vs : List (List ℕ)) × (ws ≡ word ∷ vs) × (r ≡ Some vs)
front_some word None ws e = cc
front_some word (Some vs) ws e = let s : ws ≡ word ∷ vs = cc in (vs, s, refl)

module _ (b : ℕ) (bs : List ℕ) (sound : (p : Place) (word : List ℕ) (ws : List (List ℕ)) → IsClean p word → scan bs p word ≡ Some ws → Rest p bs word ws) where
  sound_step : (s : Step) (word : List ℕ) (ws : List (List ℕ)) → IsCleanAfter s b word → follow s b word (scan bs) ≡ Some ws → After s b bs word ws
  sound_step (Go p) word ws clean e = sound p word ws clean e
  sound_step (Keep p) word ws clean e = sound p (word ++ b ∷ []) ws clean e
  sound_step (End p) word ws clean e = let f = front_some word (scan bs p []) ws e in (f.0, f.1, sound p [] f.0 clean f.2)
  sound_step Fault word ws clean e = cc

no_words : (ws : List (List ℕ)) → ◌≡◌ {A = Option (List (List ℕ))} (Some []) (Some ws) → IsLine [] ws
no_words [] e = (0, refl)
no_words (w ∷ ws) e = cc

sound_end : (p : Place) (word : List ℕ) (ws : List (List ℕ)) → IsClean p word → ending p word ≡ Some ws → Rest p [] word ws
sound_end Between word ws clean e = (clean, no_words ws e)
sound_end Bare word ws clean e = let s : ws ≡ word ∷ [] = cc in ([], [], [], refl, refl, refl, tt, (0, refl), s ∙ ap (λ x. x ∷ []) (sym (append-nil word)))
sound_end Quoted word ws clean e = cc
sound_end Escaped word ws clean e = cc
sound_end Closed word ws clean e = (clean, tt, no_words ws e)

sound : (bs : List ℕ) (p : Place) (word : List ℕ) (ws : List (List ℕ)) → IsClean p word → scan bs p word ≡ Some ws → Rest p bs word ws
sound [] p word ws clean e = sound_end p word ws clean e
sound (b ∷ bs) p word ws clean e = back p (class_of b) b bs word ws (of_class b) clean (sound_step b bs (sound bs) (step_at p (class_of b)) word ws (clean_after p (class_of b) b word clean) e)

-- and it gives them whenever there are such words

module _ (b : ℕ) (bs : List ℕ) (complete : (p : Place) (word : List ℕ) (ws : List (List ℕ)) → Rest p bs word ws → scan bs p word ≡ Some ws) where
  complete_step : (s : Step) (word : List ℕ) (ws : List (List ℕ)) → After s b bs word ws → follow s b word (scan bs) ≡ Some ws
  complete_step (Go p) word ws a = complete p word ws a
  complete_step (Keep p) word ws a = complete p (word ++ b ∷ []) ws a
  complete_step (End p) word ws a = ap (front (word ∷ [])) (complete p [] a.0 a.2) ∙ ap (λ x. Some x) (sym a.1)
  complete_step Fault word ws a = absurd a

-- no form is empty
bare_some : (w rest : List ℕ) → is_bare w ≡ true → [] ≡ w ++ rest → ⊥
bare_some [] rest ba e = cc
bare_some (c ∷ u) rest ba e = cc

form_some : (form w rest : List ℕ) → IsForm form w → [] ≡ form ++ rest → ⊥
form_some form w rest f e = elim f.1 [
  | inl q ↦ bare_some w rest q.0 (e ∙ ap (λ x. x ++ rest) q.1)
  | inr q ↦ let g : [] ≡ quoted w ++ rest = e ∙ ap (λ x. x ++ rest) q in cc
]

spaced_some : (n : ℕ) (form w rest : List ℕ) → [] ≡ replicate n 32 ++ (form ++ rest) → IsForm form w → ⊥
spaced_some zero form w rest e f = form_some form w rest f e
spaced_some (suc n) form w rest e f = cc

nil_line : (ws : List (List ℕ)) → IsLine [] ws → ◌≡◌ {A = Option (List (List ℕ))} (Some []) (Some ws)
nil_line [] line = refl
nil_line (w ∷ ws) line = absurd (spaced_some line.0 line.1 w line.2 line.3 line.4)

bare_last : (u rest word : List ℕ) (ws vs : List (List ℕ)) → [] ≡ u ++ rest → IsLine rest vs → ws ≡ (word ++ u) ∷ vs → ◌≡◌ {A = Option (List (List ℕ))} (Some (word ∷ [])) (Some ws)
bare_last [] rest word ws vs e line is =
    let l : IsLine [] vs = subst (λ x. IsLine x vs) (sym e) line in
    let h = nil_line vs l in
    let k : [] ≡ vs = cc in
    let a : word ++ [] ≡ word = append-nil word in cc
bare_last (c ∷ u) rest word ws vs e line is = cc

quotes_some : (u rest : List ℕ) → [] ≡ escaped u ++ (34 ∷ rest) → ⊥
quotes_some [] rest e = cc
quotes_some (c ∷ u) rest e = elim (cases_Bool (is_escaped c)) [
  | inl t ↦ let g : [] ≡ (92 ∷ c ∷ escaped u) ++ (34 ∷ rest) = e ∙ ap (λ x. x ++ (34 ∷ rest)) (cond-true (is_escaped c) (92 ∷ c ∷ escaped u) (c ∷ escaped u) t) in cc
  | inr t ↦ let g : [] ≡ (c ∷ escaped u) ++ (34 ∷ rest) = e ∙ ap (λ x. x ++ (34 ∷ rest)) (cond-false (is_escaped c) (92 ∷ c ∷ escaped u) (c ∷ escaped u) t) in cc
]

complete_end : (p : Place) (word : List ℕ) (ws : List (List ℕ)) → Rest p [] word ws → ending p word ≡ Some ws
complete_end Between word ws r = nil_line ws r.1
complete_end Bare word ws r = bare_last r.0 r.1 word ws r.2 r.3 r.7 r.8
complete_end Quoted word ws r = absurd (quotes_some r.0 r.1 r.3)
complete_end Escaped word ws r = let h : [] ≡ r.0 ∷ r.1 = r.2 in cc
complete_end Closed word ws r = nil_line ws r.2

complete : (bs : List ℕ) (p : Place) (word : List ℕ) (ws : List (List ℕ)) → Rest p bs word ws → scan bs p word ≡ Some ws
complete [] p word ws r = complete_end p word ws r
complete (b ∷ bs) p word ws r = complete_step b bs (complete bs) (step_at p (class_of b)) word ws (into p b bs word ws r)

-- a line that the machine reads has those words
pub line_found : (line : List ℕ) (ws : List (List ℕ)) → scan line Between [] ≡ Some ws → IsLine line ws
line_found line ws e = (sound line Between [] ws refl e).1

-- and no others
pub line_given : (line : List ℕ) (ws : List (List ℕ)) → IsLine line ws → scan line Between [] ≡ Some ws
line_given line ws l = complete line Between [] ws (refl, l)

-- a line has at most one list of words
pub line_once : (line : List ℕ) (vs ws : List (List ℕ)) → IsLine line vs → IsLine line ws → vs ≡ ws
line_once line vs ws a b = let e = line_given line vs a in let f = line_given line ws b in cc

pub front_nil : (r : Option (List (List ℕ))) → front [] r ≡ r
front_nil None = refl
front_nil (Some vs) = refl

-- at the end of the line a reader gives what the machine gives
pub at_end : (r : Reader) (line rest : List ℕ) → length rest < 1 → gives r rest ≡ scan line Between [] → scan line Between [] ≡ gives r []
at_end r line [] none h = sym h
at_end r line (b ∷ bs) none h = absurd (omega (arith, none))

-- and at a byte
pub at_byte : (r : Reader) (line rest : List ℕ) → 1 ≤ length rest → gives r rest ≡ scan line Between [] → scan line Between [] ≡ gives r (get_or rest 0 0 ∷ drop 1 rest)
at_byte r line [] some h = absurd (omega (arith, some))
at_byte r line (b ∷ bs) some h = sym h

-- a plain byte that leads from a place to another is one of the word
plain_step : (b : ℕ) (bs word : List ℕ) (p q : Place) → is_plain b ≡ true → step_at p Plain ≡ Keep q → scan (b ∷ bs) p word ≡ scan bs q (word ++ b ∷ [])
plain_step b bs word p q plain leads =
    let parts = and_parts (is_printed b) (is_open b) plain in
    let step : step_at p (class_of b) ≡ Keep q = ap (step_at p) (class_plain b parts.0 parts.1) ∙ leads in
    ap (λ s. follow s b word (scan bs)) step

-- so are all in front, at a place that they keep
scan_kept : (n : ℕ) (bs word : List ℕ) (q : Place) → n ≤ length bs → ((k : ℕ) → k < n → is_plain (get_or bs k 0) ≡ true) → step_at q Plain ≡ Keep q → scan bs q word ≡ scan (drop n bs) q (word ++ take n bs)
scan_kept zero bs word q small plain kept = ap (scan bs q) (sym (append-nil word))
scan_kept (suc n) [] word q small plain kept = absurd (omega (arith, small))
scan_kept (suc n) (b ∷ bs) word q small plain kept =
    let first = plain_step b bs word q q (plain 0 (omega arith)) kept in
    let more = scan_kept n bs (word ++ b ∷ []) q (omega (arith, small)) (λ k less. plain (suc k) (omega (arith, less))) kept in
    first ∙ (more ∙ ap (scan (drop n bs) q) (append_assoc word (b ∷ []) (take n bs)))

-- and where the first leads to that place
scan_plain : (n : ℕ) (bs word : List ℕ) (p q : Place) → 0 < n → n ≤ length bs → ((k : ℕ) → k < n → is_plain (get_or bs k 0) ≡ true) → step_at p Plain ≡ Keep q → step_at q Plain ≡ Keep q → scan bs p word ≡ scan (drop n bs) q (word ++ take n bs)
scan_plain zero bs word p q some small plain leads kept = absurd (omega (arith, some))
scan_plain (suc n) [] word p q some small plain leads kept = absurd (omega (arith, small))
scan_plain (suc n) (b ∷ bs) word p q some small plain leads kept =
    let first = plain_step b bs word p q (plain 0 (omega arith)) leads in
    let more = scan_kept n bs (word ++ b ∷ []) q (omega (arith, small)) (λ k less. plain (suc k) (omega (arith, less))) kept in
    first ∙ (more ∙ ap (scan (drop n bs) q) (append_assoc word (b ∷ []) (take n bs)))

-- at a cut a bare word ends
cut_step : (rest word : List ℕ) → IsCut rest → scan rest Bare word ≡ front (word ∷ []) (scan rest Between [])
cut_step [] word cut = refl
cut_step (b ∷ bs) word cut =
    let space = class_space b cut in
    ap (λ c. follow (step_at Bare c) b word (scan bs)) space ∙ sym (ap (λ c. front (word ∷ []) (follow (step_at Between c) b [] (scan bs))) space)

front_more : (xs ys : List (List ℕ)) (r : Option (List (List ℕ))) → front (xs ++ ys) r ≡ front xs (front ys r)
front_more xs ys None = refl
front_more xs ys (Some vs) = ap (λ x. Some x) (append_assoc xs ys vs)

-- a reader that has taken a bare word gives what it gave
pub bare_taken : (n : ℕ) (bs : List ℕ) (old new : Reader) → 0 < n → n ≤ length bs → ((k : ℕ) → k < n → is_plain (get_or bs k 0) ≡ true) → IsCut (drop n bs) → (old.place ≡ Between) × (string_bytes old.word ≡ []) → new.place ≡ old.place → new.word ≡ old.word → map cow_str_bytes new.words.items ≡ map cow_str_bytes old.words.items ++ (take n bs ∷ []) → gives new (drop n bs) ≡ gives old bs
bare_taken n bs old new some small plain cut free place word words =
    let before : scan bs old.place (string_bytes old.word) ≡ scan bs Between [] = ap (λ p. scan bs p (string_bytes old.word)) free.0 ∙ ap (scan bs Between) free.1 in
    let after : scan (drop n bs) new.place (string_bytes new.word) ≡ scan (drop n bs) Between [] =
    ap (λ p. scan (drop n bs) p (string_bytes new.word)) (place ∙ free.0) ∙ ap (scan (drop n bs) Between) (ap string_bytes word ∙ free.1) in
    let run = scan_plain n bs [] Between Bare some small plain refl refl ∙ cut_step (drop n bs) (take n bs) cut in
    let front_old = front (map cow_str_bytes old.words.items) in
    ap (front (map cow_str_bytes new.words.items)) after
    ∙ (ap (λ ws. front ws (scan (drop n bs) Between [])) words
    ∙ (front_more (map cow_str_bytes old.words.items) (take n bs ∷ []) (scan (drop n bs) Between [])
    ∙ (sym (ap front_old run) ∙ sym (ap front_old before))))

plain_small : (b : ℕ) → is_plain b ≡ true → b < 128
plain_small b plain = grind (rules, arith)

-- plain bytes are text
pub plain_text : (bs : List ℕ) → ((k : ℕ) → k < length bs → is_plain (get_or bs k 0) ≡ true) → IsUtf8 bs
plain_text bs plain = IsUtf8-from_ascii bs (λ i. elim (cases_lt i (length bs)) [
  | inl within ↦ plain_small (get_or bs i 0) (plain i within)
  | inr behind ↦ let none : get_or bs i 0 ≡ 0 = get_or-eq_default bs 0 behind in omega (arith, none)
])
