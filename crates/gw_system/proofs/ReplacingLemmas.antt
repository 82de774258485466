-- What each call of replacing a file makes of its names.
use Rattle.std.proofs.Common.{◌≡◌, ◌≢◌, ◌⊎◌, inl, inr, ◌∙◌, ap, refl, sym, subst, arith, ℕ, ◌+◌, ◌<◌, ◌≤◌, Bool, true, false, if◌then◌else◌, List, [], ◌∷◌, ◌++◌, Option, Some, None, option_map, Result, Ok, Err, IsErr}
use Rattle.std.proofs.lemmas.Cmp.{nat_list_eq_equiv}
use Rattle.std.specs.Cmp.Lexicographic.{same_text}
use Rattle.gw_system.specs.Disk.{Change, Changes, Created, Does, DoesTo, Failed, FileState, FolderSynced, Leads, Leaves, MayShow, NameState, Removed, Renamed, Spoiled, Synced, Wrote, altered, as_synced, changed, failed, failures, is_name, new_file, replaced, settled, shown, state_of, text_of, with_more, with_text}
use Rattle.gw_system.specs.Replacing.{EachAfter, IsKept, IsOldOrNew, IsReplaced, IsReplacing, IsShowing, IsShown, Throughout}
use Rattle.gw_system.specs.internal.Writing.{HasShown, IsElsewhereSame, IsNewFile, IsSettled}
use Rattle.gw_system.specs.declared.store.Access.{Access}
use Rattle.gw_wire.specs.declared.store.StoreFault.{StoreFault}

-- ---- one change

if_no : {A : Type 0} (b : Bool) (x y : A) → b ≡ false → (if b then x else y) ≡ y
if_no b x y e = ap (λ (c : Bool). if c then x else y) e

if_yes : {A : Type 0} (b : Bool) (x y : A) → b ≡ true → (if b then x else y) ≡ x
if_yes b x y e = ap (λ (c : Bool). if c then x else y) e

not_named : (name other : List ℕ) → other ≢ name → is_name name other ≡ false
not_named name other differ = by (is_name name other) refl
  where
    by : (b : Bool) → is_name name other ≡ b → is_name name other ≡ false
    by true e = absurd (differ (sym (same_text name other (sym e))))
    by false e = e

-- it changes no other name than this one
abbrev IsAt : List ℕ → Change → Type 0
IsAt name change = (r : List Change) (other : List ℕ) → other ≢ name → state_of (change ∷ r) other ≡ state_of r other

removed_at : (name : List ℕ) → IsAt name (Removed name)
unfolding changed
removed_at name r other differ = if_no (is_name name other) (replaced (state_of r other) None) (state_of r other)
    (not_named name other differ)

created_at : (name : List ℕ) (access : Access) → IsAt name (Created name access)
unfolding changed
created_at name access r other differ =
    if_no (is_name name other) (replaced (state_of r other) (Some (new_file access))) (state_of r other) (not_named name other differ)

wrote_at : (name more : List ℕ) → IsAt name (Wrote name more)
unfolding changed
wrote_at name more r other differ = if_no (is_name name other) (altered (state_of r other) (with_more more)) (state_of r other)
    (not_named name other differ)

spoiled_at : (name text : List ℕ) → IsAt name (Spoiled name text)
unfolding changed
spoiled_at name text r other differ = if_no (is_name name other) (altered (state_of r other) (with_text text)) (state_of r other)
    (not_named name other differ)

synced_at : (name : List ℕ) → IsAt name (Synced name)
unfolding changed
synced_at name r other differ = if_no (is_name name other) (altered (state_of r other) as_synced) (state_of r other)
    (not_named name other differ)

folder_at : (name : List ℕ) → IsAt name (FolderSynced name)
unfolding changed
folder_at name r other differ = if_no (is_name name other) (settled (state_of r other)) (state_of r other) (not_named name other differ)

failed_at : (name : List ℕ) → IsAt name Failed
unfolding changed
failed_at name r other differ = refl

failed_same : (r : List Change) (other : List ℕ) → state_of (Failed ∷ r) other ≡ state_of r other
unfolding changed
failed_same r other = refl

removed_to : (name : List ℕ) (r : List Change) → state_of (Removed name ∷ r) name ≡ replaced (state_of r name) None
unfolding changed
removed_to name r = if_yes (is_name name name) (replaced (state_of r name) None) (state_of r name) (nat_list_eq_equiv.refl name)

created_to : (name : List ℕ) (access : Access) (r : List Change)
    → state_of (Created name access ∷ r) name ≡ replaced (state_of r name) (Some (new_file access))
unfolding changed
created_to name access r = if_yes (is_name name name) (replaced (state_of r name) (Some (new_file access))) (state_of r name)
    (nat_list_eq_equiv.refl name)

wrote_to : (name more : List ℕ) (r : List Change) → state_of (Wrote name more ∷ r) name ≡ altered (state_of r name) (with_more more)
unfolding changed
wrote_to name more r = if_yes (is_name name name) (altered (state_of r name) (with_more more)) (state_of r name)
    (nat_list_eq_equiv.refl name)

synced_to : (name : List ℕ) (r : List Change) → state_of (Synced name ∷ r) name ≡ altered (state_of r name) as_synced
unfolding changed
synced_to name r = if_yes (is_name name name) (altered (state_of r name) as_synced) (state_of r name) (nat_list_eq_equiv.refl name)

folder_to : (name : List ℕ) (r : List Change) → state_of (FolderSynced name ∷ r) name ≡ settled (state_of r name)
unfolding changed
folder_to name r = if_yes (is_name name name) (settled (state_of r name)) (state_of r name) (nat_list_eq_equiv.refl name)

renamed_to : (from to : List ℕ) (r : List Change) → state_of (Renamed from to ∷ r) to ≡ replaced (state_of r to) (state_of r from).file
unfolding changed
renamed_to from to r =
    if_yes (is_name to to) (replaced (state_of r to) (state_of r from).file)
    (if is_name from to then replaced (state_of r to) None else state_of r to) (nat_list_eq_equiv.refl to)

renamed_else : (from to : List ℕ) (r : List Change) (other : List ℕ) → other ≢ to → other ≢ from
    → state_of (Renamed from to ∷ r) other ≡ state_of r other
unfolding changed
renamed_else from to r other first second =
    if_no (is_name to other) (replaced (state_of r other) (state_of r from).file)
    (if is_name from other then replaced (state_of r other) None else state_of r other) (not_named to other first)
    ∙ if_no (is_name from other) (replaced (state_of r other) None) (state_of r other) (not_named from other second)

-- ---- moments

nothing : (Has : List Change → Type 0) (a : List Change) → Throughout Has a a
nothing Has a = record { during = []; on = refl; each = tt }

one_more : (Has : List Change → Type 0) (a b : List Change) (change : Change) → Throughout Has a b → Has (change ∷ b)
    → Throughout Has a (change ∷ b)
one_more Has a b change t has = record {
  during = change ∷ t.during;
  on = ap (λ (l : List Change). change ∷ l) t.on;
  each = (subst (λ (l : List Change). Has (change ∷ l)) t.on has, t.each);
}

each_weaker : (P Q : List Change → Type 0) → ((r : List Change) → P r → Q r) → (a d : List Change) → EachAfter P a d → EachAfter Q a d
each_weaker P Q f a [] e = tt
each_weaker P Q f a (c ∷ d) e = (f (c ∷ (d ++ a)) e.0, each_weaker P Q f a d e.1)

weaker : (P Q : List Change → Type 0) → ((r : List Change) → P r → Q r) → (a b : List Change) → Throughout P a b → Throughout Q a b
weaker P Q f a b t = record { during = t.during; on = t.on; each = each_weaker P Q f a t.during t.each }

each_end : (Has : List Change → Type 0) (a d : List Change) → Has a → EachAfter Has a d → Has (d ++ a)
each_end Has a [] has e = has
each_end Has a (c ∷ d) has e = e.0

pub at_end : (Has : List Change → Type 0) (a b : List Change) → Has a → Throughout Has a b → Has b
at_end Has a b has t = subst Has (sym t.on) (each_end Has a t.during has t.each)

weaken : (First Next : List Change → List Change → Type 0) (p q : Changes) → Leads First p q
    → ((a b : List Change) → First a b → Next a b) → Leads Next p q
weaken First Next None q x f = x
weaken First Next (Some a) None x f = tt
weaken First Next (Some a) (Some b) x f = f a b x

follow : (First Second Both : List Change → List Change → Type 0) (p q r : Changes) → Leads First p q → Leads Second q r
    → ((a b c : List Change) → First a b → Second b c → Both a c) → Leads Both p r
follow First Second Both None q r x y join = subst (λ (o : Changes). Leads Second o r) x y
follow First Second Both (Some a) None r x y join = subst (λ (o : Changes). Leads Both (Some a) o) (sym y) tt
follow First Second Both (Some a) (Some b) None x y join = tt
follow First Second Both (Some a) (Some b) (Some c) x y join = join a b c x y

-- ---- a new file

-- What was done at a name alone.
record Reach (name : List ℕ) (a b : List Change) : Type 0 where
  pub through : Throughout (IsElsewhereSame name a) a b
  pub same : IsElsewhereSame name a b
  pub fails : failures a ≤ failures b

-- and a call failed
abbrev ReachFailing : List ℕ → List Change → List Change → Type 0
ReachFailing name a b = Reach name a b × (failures a < failures b)

fails_more : (change : Change) (a b : List Change) → failures a ≤ failures b → failures a ≤ failed change + failures b
fails_more change a b le = omega (arith, le)

fails_failed : (a b : List Change) → failures a ≤ failures b → failures a < 1 + failures b
fails_failed a b le = omega (arith, le)

reach_start : (name : List ℕ) (a : List Change) → Reach name a a
reach_start name a = record { through = nothing (IsElsewhereSame name a) a; same = λ other differ. refl; fails = omega arith }

reach_more : (name : List ℕ) (change : Change) (a b : List Change) → IsAt name change → Reach name a b → Reach name a (change ∷ b)
reach_more name change a b at x =
    let same : IsElsewhereSame name a (change ∷ b) = λ other differ. at b other differ ∙ x.same other differ in record {
      through = one_more (IsElsewhereSame name a) a b change x.through same;
      same = same;
      fails = fails_more change a b x.fails;
    }

reach_did : (name : List ℕ) (change : Change) (a b c : List Change) → IsAt name change → Reach name a b → c ≡ change ∷ b → Reach name a c
reach_did name change a b c at x e = subst (λ (l : List Change). Reach name a l) (sym e) (reach_more name change a b at x)

reach_failed : (name : List ℕ) (a b : List Change) → Reach name a b → ReachFailing name a (Failed ∷ b)
reach_failed name a b x = (reach_more name Failed a b (failed_at name) x, fails_failed a b x.fails)

fail_does : (name : List ℕ) (change : Change) (a b c : List Change) → IsAt name change → Reach name a b
    → (c ≡ Failed ∷ b) ⊎ (c ≡ Failed ∷ change ∷ b) → ReachFailing name a c
fail_does name change a b c at x (inl e) = subst (λ (l : List Change). ReachFailing name a l) (sym e) (reach_failed name a b x)
fail_does name change a b c at x (inr e) =
    subst (λ (l : List Change). ReachFailing name a l) (sym e) (reach_failed name a (change ∷ b) (reach_more name change a b at x))

fail_to : (name : List ℕ) (a b c : List Change) → Reach name a b
    → (c ≡ Failed ∷ b) ⊎ ((text : List ℕ) × (c ≡ Failed ∷ Spoiled name text ∷ b)) → ReachFailing name a c
fail_to name a b c x (inl e) = subst (λ (l : List Change). ReachFailing name a l) (sym e) (reach_failed name a b x)
fail_to name a b c x (inr spoiled) =
    subst (λ (l : List Change). ReachFailing name a l) (sym spoiled.1)
    (reach_failed name a (Spoiled name spoiled.0 ∷ b) (reach_more name (Spoiled name spoiled.0) a b (spoiled_at name spoiled.0) x))

new_failed : {T : Type 0} (name : List ℕ) (access : Access) (text : List ℕ) (result : Result T StoreFault) (a b : List Change)
    → IsErr result → ReachFailing name a b → IsNewFile name access text result a b
new_failed name access text (Ok v) a b err x = absurd cc
new_failed name access text (Err f) a b err x = record { only = x.0.through; file = tt; fails = x.0.fails; cause = x.1 }

pub remove_failed : {T : Type 0} (name : List ℕ) (access : Access) (text : List ℕ) (result : Result T StoreFault) (fault : StoreFault)
    (p q : Changes)
    → IsErr result → Leads (Does {T = Unit {0}} (Removed name) (Err fault)) p q → Leads (IsNewFile name access text result) p q
remove_failed name access text result fault p q err first =
    weaken (Does {T = Unit {0}} (Removed name) (Err fault)) (IsNewFile name access text result) p q first
    (λ a b d. new_failed name access text result a b err (fail_does name (Removed name) a a b (removed_at name) (reach_start name a) d))

pub create_failed : {T : Type 0} (F : Type 0) (name : List ℕ) (access : Access) (text : List ℕ) (result : Result T StoreFault)
    (v : Unit {0}) (fault : StoreFault) (p q r : Changes)
    → IsErr result → Leads (Does {T = Unit {0}} (Removed name) (Ok v)) p q → Leads (Does {T = F} (Created name access) (Err fault)) q r
    → Leads (IsNewFile name access text result) p r
create_failed F name access text result v fault p q r err first second =
    follow (Does {T = Unit {0}} (Removed name) (Ok v)) (Does {T = F} (Created name access) (Err fault))
    (IsNewFile name access text result) p q r first second
    (λ a b c d e. new_failed name access text result a c err (fail_does name (Created name access) a b c (created_at name access)
    (reach_did name (Removed name) a a b (removed_at name) (reach_start name a) d) e))

-- there is a new file without a text
abbrev Begun : List ℕ → Access → List Change → List Change → Type 0
Begun name access a c = c ≡ Created name access ∷ Removed name ∷ a

begun : {F : Type 0} (name : List ℕ) (access : Access) (v : Unit {0}) (file : F) (p q r : Changes)
    → Leads (Does {T = Unit {0}} (Removed name) (Ok v)) p q → Leads (Does {T = F} (Created name access) (Ok file)) q r
    → Leads (Begun name access) p r
begun {F} name access v file p q r first second =
    follow (Does {T = Unit {0}} (Removed name) (Ok v)) (Does {T = F} (Created name access) (Ok file)) (Begun name access) p q r first second
    (λ a b c d e. e ∙ ap (λ (l : List Change). Created name access ∷ l) d)

reach_new : (name : List ℕ) (access : Access) (a : List Change) → Reach name a (Created name access ∷ Removed name ∷ a)
reach_new name access a =
    reach_more name (Created name access) a (Removed name ∷ a) (created_at name access)
    (reach_more name (Removed name) a a (removed_at name) (reach_start name a))

pub write_failed : {T F : Type 0} (name : List ℕ) (access : Access) (text : List ℕ) (result : Result T StoreFault) (v : Unit {0})
    (file : F) (fault : StoreFault) (p q r s : Changes)
    → IsErr result → Leads (Does {T = Unit {0}} (Removed name) (Ok v)) p q → Leads (Does {T = F} (Created name access) (Ok file)) q r
    → Leads (DoesTo {T = Unit {0}} name (Wrote name text) (Err fault)) r s → Leads (IsNewFile name access text result) p s
write_failed name access text result v file fault p q r s err first second third =
    follow (Begun name access) (DoesTo {T = Unit {0}} name (Wrote name text) (Err fault)) (IsNewFile name access text result) p r s
    (begun name access v file p q r first second) third
    (λ a b c d e. new_failed name access text result a c err (fail_to name a b c
    (subst (λ (l : List Change). Reach name a l) (sym d) (reach_new name access a)) e))

file_written : (name : List ℕ) (access : Access) (text : List ℕ) (a : List Change)
    → (state_of (Wrote name text ∷ Created name access ∷ Removed name ∷ a) name).file ≡ Some
    (record { text = text; access = access; synced = false })
file_written name access text a =
    ap (λ (s : NameState). s.file) (wrote_to name text (Created name access ∷ Removed name ∷ a))
    ∙ ap (λ (s : NameState). option_map (with_more text) s.file) (created_to name access (Removed name ∷ a))

new_written : {T : Type 0} (name : List ℕ) (access : Access) (text : List ℕ) (file : T) (a : List Change)
    → IsNewFile {T = T} name access text (Ok file) a (Wrote name text ∷ Created name access ∷ Removed name ∷ a)
new_written name access text file a =
    let x = reach_more name (Wrote name text) a (Created name access ∷ Removed name ∷ a) (wrote_at name text) (reach_new name access a) in
    record { only = x.through; file = file_written name access text a; fails = x.fails; cause = tt }

pub written : {T F : Type 0} (name : List ℕ) (access : Access) (text : List ℕ) (result : T) (v w : Unit {0}) (file : F) (p q r s : Changes)
    → Leads (Does {T = Unit {0}} (Removed name) (Ok v)) p q → Leads (Does {T = F} (Created name access) (Ok file)) q r
    → Leads (DoesTo {T = Unit {0}} name (Wrote name text) (Ok w)) r s → Leads (IsNewFile {T = T} name access text (Ok result)) p s
written {T} name access text result v w file p q r s first second third =
    follow (Begun name access) (DoesTo {T = Unit {0}} name (Wrote name text) (Ok w)) (IsNewFile {T = T} name access text (Ok result)) p r s
    (begun name access v file p q r first second) third
    (λ a b c d e. subst (λ (l : List Change). IsNewFile {T = T} name access text (Ok result) a l)
    (sym (e ∙ ap (λ (l : List Change). Wrote name text ∷ l) d)) (new_written name access text result a))

-- ---- a file is replaced

abbrev kept : Access → List ℕ → FileState
kept access text = record { text = text; access = access; synced = true }

pub old_same : (text : List ℕ) (s : NameState) → IsOldOrNew text s s
old_same text s = record { shows = inl refl; left = λ left may. inl may }

replacing_same : (name beside text : List ℕ) (a r : List Change) → name ≢ beside → IsElsewhereSame beside a r
    → IsReplacing name beside text a r
replacing_same name beside text a r apart same = record {
  whole = subst (λ (s : NameState). IsOldOrNew text (state_of a name) s) (sym (same name apart)) (old_same text (state_of a name));
  others = λ other differs differ. same other differ;
}

-- another change at the file beside it
replacing_at : (name beside text : List ℕ) (change : Change) (a r : List Change) → name ≢ beside → IsAt beside change
    → IsReplacing name beside text a r
    → IsReplacing name beside text a (change ∷ r)
replacing_at name beside text change a r apart at x = record {
  whole = subst (λ (s : NameState). IsOldOrNew text (state_of a name) s) (sym (at r name apart)) x.whole;
  others = λ other differs differ. at r other differ ∙ x.others other differs differ;
}

replacing_failed : (name beside text : List ℕ) (a r : List Change) → IsReplacing name beside text a r
    → IsReplacing name beside text a (Failed ∷ r)
replacing_failed name beside text a r x = record {
  whole = subst (λ (s : NameState). IsOldOrNew text (state_of a name) s) (sym (failed_same r name)) x.whole;
  others = λ other differs differ. failed_same r other ∙ x.others other differs differ;
}

reach_by : {T : Type 0} (beside : List ℕ) (access : Access) (text : List ℕ) (result : Result T StoreFault) (a b : List Change)
    → IsNewFile beside access text result a b → Reach beside a b
reach_by beside access text result a b new = record {
  through = new.only;
  same = at_end (IsElsewhereSame beside a) a b (λ other differ. refl) new.only;
  fails = new.fails;
}

settled_failed : (name beside : List ℕ) (access : Access) (text : List ℕ) (result : Result (Unit {0}) StoreFault) (a b : List Change)
    → IsErr result
    → Throughout (IsReplacing name beside text a) a b → failures a < failures b → IsSettled name beside access text result a b
settled_failed name beside access text (Ok v) a b err moments cause = absurd cc
settled_failed name beside access text (Err f) a b err moments cause = record { moments = moments; done = tt; cause = cause }

settled_reach : (name beside : List ℕ) (access : Access) (text : List ℕ) (result : Result (Unit {0}) StoreFault) (a b : List Change)
    → name ≢ beside → IsErr result
    → ReachFailing beside a b → IsSettled name beside access text result a b
settled_reach name beside access text result a b apart err x =
    settled_failed name beside access text result a b err
    (weaker (IsElsewhereSame beside a) (IsReplacing name beside text a) (λ r same. replacing_same name beside text a r apart same) a b
    x.0.through) x.1

pub unwritten : (T : Type 0) (name beside : List ℕ) (access : Access) (text : List ℕ) (result : Result (Unit {0}) StoreFault)
    (fault : StoreFault) (p q : Changes)
    → name ≢ beside → IsErr result → Leads (IsNewFile {T = T} beside access text (Err fault)) p q
    → Leads (IsSettled name beside access text result) p q
unwritten T name beside access text result fault p q apart err first =
    weaken (IsNewFile {T = T} beside access text (Err fault)) (IsSettled name beside access text result) p q first
    (λ a b d. settled_reach name beside access text result a b apart err (reach_by {T = T} beside access text (Err fault) a b d, d.cause))

pub unsynced : {T : Type 0} (name beside : List ℕ) (access : Access) (text : List ℕ) (result : Result (Unit {0}) StoreFault) (file : T)
    (fault : StoreFault) (p q r : Changes)
    → name ≢ beside → IsErr result → Leads (IsNewFile {T = T} beside access text (Ok file)) p q
    → Leads (DoesTo {T = Unit {0}} beside (Synced beside) (Err fault)) q r → Leads (IsSettled name beside access text result) p r
unsynced {T} name beside access text result file fault p q r apart err first second =
    follow (IsNewFile {T = T} beside access text (Ok file)) (DoesTo {T = Unit {0}} beside (Synced beside) (Err fault))
    (IsSettled name beside access text result) p q r
    first second
    (λ a b c d e. settled_reach name beside access text result a c apart err
    (fail_to beside a b c (reach_by {T = T} beside access text (Ok file) a b d) e))

-- The file beside it is written and synced.
record Ready (beside : List ℕ) (access : Access) (text : List ℕ) (a b : List Change) : Type 0 where
  pub reach : Reach beside a b
  pub file : (state_of b beside).file ≡ Some (kept access text)

ready : {T : Type 0} (beside : List ℕ) (access : Access) (text : List ℕ) (file : T) (v : Unit {0}) (p q r : Changes)
    → Leads (IsNewFile {T = T} beside access text (Ok file)) p q → Leads (DoesTo {T = Unit {0}} beside (Synced beside) (Ok v)) q r
    → Leads (Ready beside access text) p r
ready {T} beside access text file v p q r first second =
    follow (IsNewFile {T = T} beside access text (Ok file)) (DoesTo {T = Unit {0}} beside (Synced beside) (Ok v))
    (Ready beside access text) p q r first second
    (λ a b c d e. subst (λ (l : List Change). Ready beside access text a l) (sym e) (record {
      reach = reach_more beside (Synced beside) a b (synced_at beside) (reach_by {T = T} beside access text (Ok file) a b d);
      file = ap (λ (s : NameState). s.file) (synced_to beside b) ∙ ap (λ (f : Option FileState). option_map as_synced f) d.file;
    }))

leaves_kept : (access : Access) (text : List ℕ) (left : Option (List ℕ)) → Leaves (Some (kept access text)) left → left ≡ Some text
leaves_kept access text None x = absurd x
leaves_kept access text (Some t) x = ap (λ (u : List ℕ). Some u) (x refl)

new_over : (access : Access) (text : List ℕ) (s : NameState) (left : Option (List ℕ)) → MayShow (replaced s (Some (kept access text))) left
    → MayShow s left ⊎ (left ≡ Some text)
new_over access text s left (inl x) = inr (leaves_kept access text left x)
new_over access text s left (inr x) = inl x

-- The file has its name.
record Moved (name beside : List ℕ) (access : Access) (text : List ℕ) (a b : List Change) : Type 0 where
  pub through : Throughout (IsReplacing name beside text a) a b
  pub now : IsReplacing name beside text a b
  pub file : (state_of b name).file ≡ Some (kept access text)
  pub fails : failures a ≤ failures b

moved : (name beside : List ℕ) (access : Access) (text : List ℕ) (a b : List Change) → name ≢ beside → Ready beside access text a b
    → Moved name beside access text a (Renamed beside name ∷ b)
moved name beside access text a b apart x =
    let to : state_of (Renamed beside name ∷ b) name ≡ replaced (state_of a name) (Some (kept access text)) =
    renamed_to beside name b
    ∙ (ap (λ (s : NameState). replaced s (state_of b beside).file) (x.reach.same name apart)
    ∙ ap (λ (f : Option FileState). replaced (state_of a name) f) x.file) in
    let whole : IsOldOrNew text (state_of a name) (replaced (state_of a name) (Some (kept access text))) =
    record { shows = inr refl; left = λ left may. new_over access text (state_of a name) left may } in
    let here : IsReplacing name beside text a (Renamed beside name ∷ b) = record {
      whole = subst (λ (s : NameState). IsOldOrNew text (state_of a name) s) (sym to) whole;
      others = λ other differs differ. renamed_else beside name b other differs differ ∙ x.reach.same other differ;
    } in
    record {
      through = one_more (IsReplacing name beside text a) a b (Renamed beside name)
          (weaker (IsElsewhereSame beside a) (IsReplacing name beside text a) (λ r same. replacing_same name beside text a r apart same)
          a b x.reach.through) here;
      now = here;
      file = ap (λ (s : NameState). s.file) to;
      fails = fails_more (Renamed beside name) a b x.reach.fails;
    }

-- a call that comes then fails
failed_then : (name beside : List ℕ) (access : Access) (text : List ℕ) (result : Result (Unit {0}) StoreFault) (a b : List Change)
    → IsErr result
    → Throughout (IsReplacing name beside text a) a b → IsReplacing name beside text a b → failures a ≤ failures b
    → IsSettled name beside access text result a (Failed ∷ b)
failed_then name beside access text result a b err through now fails =
    settled_failed name beside access text result a (Failed ∷ b) err
    (one_more (IsReplacing name beside text a) a b Failed through (replacing_failed name beside text a b now)) (fails_failed a b fails)

unmoved_by : (name beside : List ℕ) (access : Access) (text : List ℕ) (result : Result (Unit {0}) StoreFault) (a b c : List Change)
    → name ≢ beside → IsErr result
    → Ready beside access text a b → (c ≡ Failed ∷ b) ⊎ (c ≡ Failed ∷ Renamed beside name ∷ b)
    → IsSettled name beside access text result a c
unmoved_by name beside access text result a b c apart err x (inl e) =
    subst (λ (l : List Change). IsSettled name beside access text result a l) (sym e)
    (settled_reach name beside access text result a (Failed ∷ b) apart err (reach_failed beside a b x.reach))
unmoved_by name beside access text result a b c apart err x (inr e) =
    let m = moved name beside access text a b apart x in
    subst (λ (l : List Change). IsSettled name beside access text result a l) (sym e)
    (failed_then name beside access text result a (Renamed beside name ∷ b) err m.through m.now m.fails)

pub unmoved : {T : Type 0} (name beside : List ℕ) (access : Access) (text : List ℕ) (result : Result (Unit {0}) StoreFault) (file : T)
    (v : Unit {0}) (fault : StoreFault)
    (p q r s : Changes) → name ≢ beside → IsErr result → Leads (IsNewFile {T = T} beside access text (Ok file)) p q
    → Leads (DoesTo {T = Unit {0}} beside (Synced beside) (Ok v)) q r → Leads (Does {T = Unit {0}} (Renamed beside name) (Err fault)) r s
    → Leads (IsSettled name beside access text result) p s
unmoved name beside access text result file v fault p q r s apart err first second third =
    follow (Ready beside access text) (Does {T = Unit {0}} (Renamed beside name) (Err fault)) (IsSettled name beside access text result)
    p r s
    (ready beside access text file v p q r first second) third
    (λ a b c d e. unmoved_by name beside access text result a b c apart err d e)

kept_left : (access : Access) (text : List ℕ) (s : NameState) → s.file ≡ Some (kept access text) → (left : Option (List ℕ))
    → MayShow (settled s) left → left ≡ Some text
kept_left access text s e left (inl x) = leaves_kept access text left (subst (λ (f : Option FileState). Leaves f left) e x)
kept_left access text s e left (inr x) = absurd x

settled_by : (name beside : List ℕ) (access : Access) (text : List ℕ) (a b : List Change) → name ≢ beside
    → Moved name beside access text a b
    → IsReplacing name beside text a (FolderSynced name ∷ b) × IsKept access text (state_of (FolderSynced name ∷ b) name)
settled_by name beside access text a b apart x =
    let s = state_of b name in
    let kept_now : IsKept access text (settled s) = record { file = x.file; left = λ left may. kept_left access text s x.file left may } in
    let whole : IsOldOrNew text (state_of a name) (settled s) = record {
      shows = inr (ap (λ (f : Option FileState). option_map text_of f) x.file);
      left = λ left may. inr (kept_left access text s x.file left may);
    } in (
      record {
        whole = subst (λ (t : NameState). IsOldOrNew text (state_of a name) t) (sym (folder_to name b)) whole;
        others = λ other differs differ. folder_at name b other differs ∙ x.now.others other differs differ;
      },
      subst (λ (t : NameState). IsKept access text t) (sym (folder_to name b)) kept_now,
    )

settled_at : (name beside : List ℕ) (access : Access) (text : List ℕ) (result : Result (Unit {0}) StoreFault) (a b c : List Change)
    → name ≢ beside
    → Moved name beside access text a b → Does {T = Unit {0}} (FolderSynced name) result b c → IsSettled name beside access text result a c
settled_at name beside access text (Ok v) a b c apart x e =
    let y = settled_by name beside access text a b apart x in
    subst (λ (l : List Change). IsSettled name beside access text (Ok v) a l) (sym e) (record {
      moments = one_more (IsReplacing name beside text a) a b (FolderSynced name) x.through y.0;
      done = y.1;
      cause = tt;
    })
settled_at name beside access text (Err f) a b c apart x (inl e) =
    subst (λ (l : List Change). IsSettled name beside access text (Err f) a l) (sym e)
    (failed_then name beside access text (Err f) a b refl x.through x.now x.fails)
settled_at name beside access text (Err f) a b c apart x (inr e) =
    let y = settled_by name beside access text a b apart x in
    subst (λ (l : List Change). IsSettled name beside access text (Err f) a l) (sym e)
    (failed_then name beside access text (Err f) a (FolderSynced name ∷ b) refl
    (one_more (IsReplacing name beside text a) a b (FolderSynced name) x.through y.0) y.0 (fails_more (FolderSynced name) a b x.fails))

pub settles : {T : Type 0} (name beside : List ℕ) (access : Access) (text : List ℕ) (result : Result (Unit {0}) StoreFault) (file : T)
    (v w : Unit {0})
    (p q r s t : Changes) → name ≢ beside → Leads (IsNewFile {T = T} beside access text (Ok file)) p q
    → Leads (DoesTo {T = Unit {0}} beside (Synced beside) (Ok v)) q r → Leads (Does {T = Unit {0}} (Renamed beside name) (Ok w)) r s
    → Leads (Does {T = Unit {0}} (FolderSynced name) result) s t → Leads (IsSettled name beside access text result) p t
settles name beside access text result file v w p q r s t apart first second third fourth =
    follow (Moved name beside access text) (Does {T = Unit {0}} (FolderSynced name) result) (IsSettled name beside access text result) p s t
    (follow (Ready beside access text) (Does {T = Unit {0}} (Renamed beside name) (Ok w)) (Moved name beside access text) p r s
    (ready beside access text file v p q r first second) third
    (λ a b c d e. subst (λ (l : List Change). Moved name beside access text a l) (sym e) (moved name beside access text a b apart d)))
    fourth
    (λ a b c d e. settled_at name beside access text result a b c apart d e)

pub replaces : (name beside : List ℕ) (access : Access) (text : List ℕ) (v w : Unit {0}) (p q : Changes)
    → Leads (IsSettled name beside access text (Ok v)) p q → Leads (IsReplaced name beside access text (Ok w)) p q
replaces name beside access text v w p q first =
    weaken (IsSettled name beside access text (Ok v)) (IsReplaced name beside access text (Ok w)) p q first
    (λ a b d. record { moments = d.moments; done = d.done; cause = tt; clean = tt })

fails_still : (a b : List Change) → failures a < failures b → failures a < 0 + failures b
fails_still a b less = omega (arith, less)

fails_more_than : (a b : List Change) → failures a < failures b → failures a ≤ failures b
fails_more_than a b less = omega (arith, less)

fails_twice : (a b : List Change) → failures a < failures b → failures a + 2 ≤ 1 + failures b
fails_twice a b less = omega (arith, less)

cleared : (name beside : List ℕ) (access : Access) (text : List ℕ) (fault other : StoreFault) (result : Result (Unit {0}) StoreFault)
    (a b c : List Change)
    → name ≢ beside → IsSettled name beside access text (Err fault) a b → Does {T = Unit {0}} (Removed beside) result b c
    → IsReplaced name beside access text (Err other) a c
cleared name beside access text fault other (Ok v) a b c apart x e =
    let now = at_end (IsReplacing name beside text a) a b (replacing_same name beside text a a apart (λ other differ. refl)) x.moments in
    subst (λ (l : List Change). IsReplaced name beside access text (Err other) a l) (sym e) (record {
      moments = one_more (IsReplacing name beside text a) a b (Removed beside) x.moments
          (replacing_at name beside text (Removed beside) a b apart (removed_at beside) now);
      done = tt;
      cause = fails_still a b x.cause;
      clean = inl (ap (λ (s : NameState). shown s) (removed_to beside b));
    })
cleared name beside access text fault other (Err f) a b c apart x (inl e) =
    let now = at_end (IsReplacing name beside text a) a b (replacing_same name beside text a a apart (λ other differ. refl)) x.moments in
    subst (λ (l : List Change). IsReplaced name beside access text (Err other) a l) (sym e) (record {
      moments = one_more (IsReplacing name beside text a) a b Failed x.moments (replacing_failed name beside text a b now);
      done = tt;
      cause = fails_failed a b (fails_more_than a b x.cause);
      clean = inr (fails_twice a b x.cause);
    })
cleared name beside access text fault other (Err f) a b c apart x (inr e) =
    let now = at_end (IsReplacing name beside text a) a b (replacing_same name beside text a a apart (λ other differ. refl)) x.moments in
    let then_now = replacing_at name beside text (Removed beside) a b apart (removed_at beside) now in
    subst (λ (l : List Change). IsReplaced name beside access text (Err other) a l) (sym e) (record {
      moments = one_more (IsReplacing name beside text a) a (Removed beside ∷ b) Failed
          (one_more (IsReplacing name beside text a) a b (Removed beside) x.moments then_now)
          (replacing_failed name beside text a (Removed beside ∷ b) then_now);
      done = tt;
      cause = fails_failed a (Removed beside ∷ b) (fails_more (Removed beside) a b (fails_more_than a b x.cause));
      clean = inr (fails_twice a (Removed beside ∷ b) (fails_still a b x.cause));
    })

pub clears : (name beside : List ℕ) (access : Access) (text : List ℕ) (fault other : StoreFault) (result : Result (Unit {0}) StoreFault)
    (p q r : Changes)
    → name ≢ beside → Leads (IsSettled name beside access text (Err fault)) p q → Leads (Does {T = Unit {0}} (Removed beside) result) q r
    → Leads (IsReplaced name beside access text (Err other)) p r
clears name beside access text fault other result p q r apart first second =
    follow (IsSettled name beside access text (Err fault)) (Does {T = Unit {0}} (Removed beside) result)
    (IsReplaced name beside access text (Err other)) p q r
    first second (λ a b c d e. cleared name beside access text fault other result a b c apart d e)

-- ---- a text that needn't be on the disk

abbrev fresh : Access → List ℕ → FileState
fresh access text = record { text = text; access = access; synced = false }

showing_same : (name beside text : List ℕ) (a r : List Change) → name ≢ beside → IsElsewhereSame beside a r → IsShowing name beside text a r
showing_same name beside text a r apart same = record {
  shows = inl (ap (λ (s : NameState). shown s) (same name apart));
  others = λ other differs differ. same other differ;
}

-- another change after which the name shows the same
showing_more : (name beside text : List ℕ) (change : Change) (a r : List Change) → state_of (change ∷ r) name ≡ state_of r name
    → ((other : List ℕ) → other ≢ name → other ≢ beside → state_of (change ∷ r) other ≡ state_of r other) → IsShowing name beside text a r
    → IsShowing name beside text a (change ∷ r)
showing_more name beside text change a r here there x = record {
  shows = subst (λ (s : NameState). (shown s ≡ shown (state_of a name)) ⊎ (shown s ≡ Some text)) (sym here) x.shows;
  others = λ other differs differ. there other differs differ ∙ x.others other differs differ;
}

showing_failed : (name beside text : List ℕ) (a r : List Change) → IsShowing name beside text a r
    → IsShowing name beside text a (Failed ∷ r)
showing_failed name beside text a r x =
    showing_more name beside text Failed a r (failed_same r name) (λ other differs differ. failed_same r other) x

showing_removed : (name beside text : List ℕ) (a r : List Change) → name ≢ beside → IsShowing name beside text a r
    → IsShowing name beside text a (Removed beside ∷ r)
showing_removed name beside text a r apart x =
    showing_more name beside text (Removed beside) a r (removed_at beside r name apart)
    (λ other differs differ. removed_at beside r other differ) x

shown_failed : (name beside : List ℕ) (access : Access) (text : List ℕ) (result : Result (Unit {0}) StoreFault) (a b : List Change)
    → IsErr result
    → Throughout (IsShowing name beside text a) a b → failures a < failures b → HasShown name beside access text result a b
shown_failed name beside access text (Ok v) a b err moments cause = absurd cc
shown_failed name beside access text (Err f) a b err moments cause = record { moments = moments; done = tt; cause = cause }

shown_reach : (name beside text : List ℕ) (a b : List Change) → name ≢ beside → Reach beside a b
    → Throughout (IsShowing name beside text a) a b
shown_reach name beside text a b apart x =
    weaker (IsElsewhereSame beside a) (IsShowing name beside text a) (λ r same. showing_same name beside text a r apart same) a b x.through

pub unshown : (T : Type 0) (name beside : List ℕ) (access : Access) (text : List ℕ) (result : Result (Unit {0}) StoreFault)
    (fault : StoreFault) (p q : Changes)
    → name ≢ beside → IsErr result → Leads (IsNewFile {T = T} beside access text (Err fault)) p q
    → Leads (HasShown name beside access text result) p q
unshown T name beside access text result fault p q apart err first =
    weaken (IsNewFile {T = T} beside access text (Err fault)) (HasShown name beside access text result) p q first
    (λ a b d. shown_failed name beside access text result a b err
    (shown_reach name beside text a b apart (reach_by {T = T} beside access text (Err fault) a b d)) d.cause)

-- The file has its name, and isn't synced.
record Given (name beside : List ℕ) (access : Access) (text : List ℕ) (a b : List Change) : Type 0 where
  pub through : Throughout (IsShowing name beside text a) a b
  pub now : IsShowing name beside text a b
  pub file : (state_of b name).file ≡ Some (fresh access text)
  pub fails : failures a ≤ failures b

given : {T : Type 0} (name beside : List ℕ) (access : Access) (text : List ℕ) (file : T) (a b : List Change) → name ≢ beside
    → IsNewFile {T = T} beside access text (Ok file) a b → Given name beside access text a (Renamed beside name ∷ b)
given {T} name beside access text file a b apart x =
    let reach = reach_by {T = T} beside access text (Ok file) a b x in
    let to : state_of (Renamed beside name ∷ b) name ≡ replaced (state_of a name) (Some (fresh access text)) =
    renamed_to beside name b
    ∙ (ap (λ (s : NameState). replaced s (state_of b beside).file) (reach.same name apart)
    ∙ ap (λ (f : Option FileState). replaced (state_of a name) f) x.file) in
    let here : IsShowing name beside text a (Renamed beside name ∷ b) = record {
      shows = inr (ap (λ (s : NameState). shown s) to);
      others = λ other differs differ. renamed_else beside name b other differs differ ∙ reach.same other differ;
    } in
    record {
      through = one_more (IsShowing name beside text a) a b (Renamed beside name) (shown_reach name beside text a b apart reach) here;
      now = here;
      file = ap (λ (s : NameState). s.file) to;
      fails = fails_more (Renamed beside name) a b x.fails;
    }

shown_by : {T : Type 0} (name beside : List ℕ) (access : Access) (text : List ℕ) (result : Result (Unit {0}) StoreFault) (file : T)
    (a b c : List Change) → name ≢ beside
    → IsNewFile {T = T} beside access text (Ok file) a b → Does {T = Unit {0}} (Renamed beside name) result b c
    → HasShown name beside access text result a c
shown_by {T} name beside access text (Ok v) file a b c apart x e =
    let y = given {T = T} name beside access text file a b apart x in
    subst (λ (l : List Change). HasShown name beside access text (Ok v) a l) (sym e)
    (record { moments = y.through; done = y.file; cause = tt })
shown_by {T} name beside access text (Err f) file a b c apart x (inl e) =
    let reach = reach_failed beside a b (reach_by {T = T} beside access text (Ok file) a b x) in
    subst (λ (l : List Change). HasShown name beside access text (Err f) a l) (sym e)
    (shown_failed name beside access text (Err f) a (Failed ∷ b) refl (shown_reach name beside text a (Failed ∷ b) apart reach.0) reach.1)
shown_by {T} name beside access text (Err f) file a b c apart x (inr e) =
    let y = given {T = T} name beside access text file a b apart x in
    subst (λ (l : List Change). HasShown name beside access text (Err f) a l) (sym e)
    (shown_failed name beside access text (Err f) a (Failed ∷ Renamed beside name ∷ b) refl
    (one_more (IsShowing name beside text a) a (Renamed beside name ∷ b) Failed y.through
    (showing_failed name beside text a (Renamed beside name ∷ b) y.now))
    (fails_failed a (Renamed beside name ∷ b) y.fails))

pub shows : {T : Type 0} (name beside : List ℕ) (access : Access) (text : List ℕ) (result : Result (Unit {0}) StoreFault) (file : T)
    (p q r : Changes)
    → name ≢ beside → Leads (IsNewFile {T = T} beside access text (Ok file)) p q
    → Leads (Does {T = Unit {0}} (Renamed beside name) result) q r
    → Leads (HasShown name beside access text result) p r
shows {T} name beside access text result file p q r apart first second =
    follow (IsNewFile {T = T} beside access text (Ok file)) (Does {T = Unit {0}} (Renamed beside name) result)
    (HasShown name beside access text result) p q r
    first second (λ a b c d e. shown_by {T = T} name beside access text result file a b c apart d e)

pub shown_whole : (name beside : List ℕ) (access : Access) (text : List ℕ) (v w : Unit {0}) (p q : Changes)
    → Leads (HasShown name beside access text (Ok v)) p q → Leads (IsShown name beside access text (Ok w)) p q
shown_whole name beside access text v w p q first =
    weaken (HasShown name beside access text (Ok v)) (IsShown name beside access text (Ok w)) p q first
    (λ a b d. record { moments = d.moments; done = d.done; cause = tt; clean = tt })

cleared_shown : (name beside : List ℕ) (access : Access) (text : List ℕ) (fault other : StoreFault)
    (result : Result (Unit {0}) StoreFault) (a b c : List Change)
    → name ≢ beside → HasShown name beside access text (Err fault) a b → Does {T = Unit {0}} (Removed beside) result b c
    → IsShown name beside access text (Err other) a c
cleared_shown name beside access text fault other (Ok v) a b c apart x e =
    let now = at_end (IsShowing name beside text a) a b (showing_same name beside text a a apart (λ other differ. refl)) x.moments in
    subst (λ (l : List Change). IsShown name beside access text (Err other) a l) (sym e) (record {
      moments = one_more (IsShowing name beside text a) a b (Removed beside) x.moments (showing_removed name beside text a b apart now);
      done = tt;
      cause = fails_still a b x.cause;
      clean = inl (ap (λ (s : NameState). shown s) (removed_to beside b));
    })
cleared_shown name beside access text fault other (Err f) a b c apart x (inl e) =
    let now = at_end (IsShowing name beside text a) a b (showing_same name beside text a a apart (λ other differ. refl)) x.moments in
    subst (λ (l : List Change). IsShown name beside access text (Err other) a l) (sym e) (record {
      moments = one_more (IsShowing name beside text a) a b Failed x.moments (showing_failed name beside text a b now);
      done = tt;
      cause = fails_failed a b (fails_more_than a b x.cause);
      clean = inr (fails_twice a b x.cause);
    })
cleared_shown name beside access text fault other (Err f) a b c apart x (inr e) =
    let now = at_end (IsShowing name beside text a) a b (showing_same name beside text a a apart (λ other differ. refl)) x.moments in
    let then_now = showing_removed name beside text a b apart now in
    subst (λ (l : List Change). IsShown name beside access text (Err other) a l) (sym e) (record {
      moments = one_more (IsShowing name beside text a) a (Removed beside ∷ b) Failed
          (one_more (IsShowing name beside text a) a b (Removed beside) x.moments then_now)
          (showing_failed name beside text a (Removed beside ∷ b) then_now);
      done = tt;
      cause = fails_failed a (Removed beside ∷ b) (fails_more (Removed beside) a b (fails_more_than a b x.cause));
      clean = inr (fails_twice a (Removed beside ∷ b) (fails_still a b x.cause));
    })

pub clears_shown : (name beside : List ℕ) (access : Access) (text : List ℕ) (fault other : StoreFault)
    (result : Result (Unit {0}) StoreFault) (p q r : Changes)
    → name ≢ beside → Leads (HasShown name beside access text (Err fault)) p q → Leads (Does {T = Unit {0}} (Removed beside) result) q r
    → Leads (IsShown name beside access text (Err other)) p r
clears_shown name beside access text fault other result p q r apart first second =
    follow (HasShown name beside access text (Err fault)) (Does {T = Unit {0}} (Removed beside) result)
    (IsShown name beside access text (Err other)) p q r
    first second (λ a b c d e. cleared_shown name beside access text fault other result a b c apart d e)
