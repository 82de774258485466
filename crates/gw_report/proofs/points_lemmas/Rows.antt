-- The parts of the list's text.
use Rattle.std.proofs.Common.{◌≡◌, ℕ, List, [], ◌∷◌, ◌++◌, map, refl, ap, sym, ◌∙◌, append_assoc}
use Rattle.std.proofs.lemmas.List.{append-nil}
use Rattle.std.specs.List.{flat_map}
use Rattle.gw_configuration.specs.Configuration.{Configuration}
use Rattle.gw_configuration.specs.declared.device.Device.{Device}
use Rattle.gw_configuration.specs.declared.object.Object.{Object}
use Rattle.gw_report.specs.points.Cells.{Row, cell_text, next_text, row_text}
use Rattle.gw_report.specs.points.Points.{device_point, header_rows, object_point, point_row, points_text}

pub texts_of : {A B C : Type 0} (f : B → List C) (g : A → B) (xs : List A) → flat_map f (map g xs) ≡ flat_map (λ x. f (g x)) xs
texts_of f g [] = refl
texts_of f g (x ∷ xs) = ap (λ t. f (g x) ++ t) (texts_of f g xs)

texts_front : {A B : Type 0} (f : A → List B) (xs ys : List A) → flat_map f (xs ++ ys) ≡ flat_map f xs ++ flat_map f ys
texts_front f [] ys = refl
texts_front f (x ∷ xs) ys = ap (λ t. f x ++ t) (texts_front f xs ys) ∙ sym (append_assoc (f x) (flat_map f xs) (flat_map f ys))

pub others_text : {A : Type 0} (now : A → List ℕ) (cells : List A) → flat_map next_text (map now cells) ≡ flat_map (λ cell. next_text (now cell)) cells
others_text now cells = texts_of next_text now cells

pub points_parts : (c : Configuration)
    → points_text c
    ≡ flat_map row_text (header_rows c.device) ++ (row_text (point_row (device_point c.device))
    ++ flat_map (λ object. row_text (point_row (object_point c.device.instance object))) c.objects)
points_parts c =
    texts_front row_text (header_rows c.device) (point_row (device_point c.device) ∷ map point_row (map (object_point c.device.instance) c.objects))
    ∙ ap (λ (t : List ℕ). flat_map row_text (header_rows c.device) ++ (row_text (point_row (device_point c.device)) ++ t))
    (texts_of row_text point_row (map (object_point c.device.instance) c.objects)
    ∙ texts_of (λ p. row_text (point_row p)) (object_point c.device.instance) c.objects)

regroup_five : (o a b c d e : List ℕ) → ((((o ++ a) ++ b) ++ c) ++ d) ++ e ≡ o ++ (a ++ (b ++ (c ++ (d ++ e))))
regroup_five o a b c d e = simp append_assoc

-- five cells, one after the other
pub five_put : (old a b c d e v w x y z : List ℕ) → a ≡ old ++ next_text v → b ≡ a ++ next_text w → c ≡ b ++ next_text x → d ≡ c ++ next_text y
    → e ≡ d ++ next_text z → e ≡ old ++ flat_map next_text (v ∷ w ∷ x ∷ y ∷ z ∷ [])
five_put old a b c d e v w x y z p q r s t =
    t ∙ ap (λ (k : List ℕ). k ++ next_text z) (s ∙ ap (λ (k : List ℕ). k ++ next_text y) (r ∙ ap (λ (k : List ℕ). k ++ next_text x) (q ∙ ap (λ (k : List ℕ). k ++ next_text w) p)))
    ∙ regroup_five old (next_text v) (next_text w) (next_text x) (next_text y) (next_text z)
    ∙ ap (λ (k : List ℕ). old ++ (next_text v ++ (next_text w ++ (next_text x ++ (next_text y ++ k))))) (sym (append-nil (next_text z)))

regroup_row : (o k a b c e : List ℕ) → ((((o ++ k) ++ a) ++ b) ++ c) ++ e ≡ o ++ (k ++ ((a ++ (b ++ c)) ++ e))
regroup_row o k a b c e = simp append_assoc

-- a cell, others in three parts, and the end
pub row_put : (old one two three four five key : List ℕ) (a b c : Row) → one ≡ old ++ cell_text key → two ≡ one ++ flat_map next_text a
    → three ≡ two ++ flat_map next_text b → four ≡ three ++ flat_map next_text c → five ≡ four ++ 13 ∷ 10 ∷ []
    → five ≡ old ++ row_text (key ∷ (a ++ (b ++ c)))
row_put old one two three four five key a b c p q r s t =
    t ∙ ap (λ (k : List ℕ). k ++ 13 ∷ 10 ∷ []) (s ∙ ap (λ (k : List ℕ). k ++ flat_map next_text c) (r ∙ ap (λ (k : List ℕ). k ++ flat_map next_text b) (q ∙ ap (λ (k : List ℕ). k ++ flat_map next_text a) p)))
    ∙ regroup_row old (cell_text key) (flat_map next_text a) (flat_map next_text b) (flat_map next_text c) (13 ∷ 10 ∷ [])
    ∙ ap (λ (k : List ℕ). old ++ (cell_text key ++ (k ++ 13 ∷ 10 ∷ [])))
    (sym (texts_front next_text a (b ++ c) ∙ ap (λ (k : List ℕ). flat_map next_text a ++ k) (texts_front next_text b c)))

regroup_three : (o a b c : List ℕ) → ((o ++ a) ++ b) ++ c ≡ o ++ (a ++ (b ++ c))
regroup_three o a b c = simp append_assoc

regroup_four : (o a b c d : List ℕ) → (((o ++ a) ++ b) ++ c) ++ d ≡ o ++ (a ++ (b ++ (c ++ d)))
regroup_four o a b c d = simp append_assoc

-- a line: its first cell, the others, and the end
pub line_put : {A : Type 0} (now : A → List ℕ) (old one two three key : List ℕ) (others : List A) → one ≡ old ++ cell_text key
    → two ≡ one ++ flat_map (λ cell. next_text (now cell)) others → three ≡ two ++ 13 ∷ 10 ∷ [] → three ≡ old ++ row_text (key ∷ map now others)
line_put now old one two three key others p q r =
    r ∙ ap (λ (k : List ℕ). k ++ 13 ∷ 10 ∷ []) (q ∙ ap (λ (k : List ℕ). k ++ flat_map (λ cell. next_text (now cell)) others) p)
    ∙ regroup_three old (cell_text key) (flat_map (λ cell. next_text (now cell)) others) (13 ∷ 10 ∷ [])
    ∙ ap (λ (k : List ℕ). old ++ (cell_text key ++ (k ++ 13 ∷ 10 ∷ []))) (sym (others_text now others))

-- four lines
pub four_put : (old a b c d : List ℕ) (w x y z : Row) → a ≡ old ++ row_text w → b ≡ a ++ row_text x → c ≡ b ++ row_text y
    → d ≡ c ++ row_text z → d ≡ old ++ flat_map row_text (w ∷ x ∷ y ∷ z ∷ [])
four_put old a b c d w x y z p q r s =
    s ∙ ap (λ (k : List ℕ). k ++ row_text z) (r ∙ ap (λ (k : List ℕ). k ++ row_text y) (q ∙ ap (λ (k : List ℕ). k ++ row_text x) p))
    ∙ regroup_four old (row_text w) (row_text x) (row_text y) (row_text z)
    ∙ ap (λ (k : List ℕ). old ++ (row_text w ++ (row_text x ++ (row_text y ++ k)))) (sym (append-nil (row_text z)))

-- a line, others, and one more
pub header_put : (old one two three : List ℕ) (first : Row) (others : List Row) (last : Row) → one ≡ old ++ row_text first
    → two ≡ one ++ flat_map row_text others → three ≡ two ++ row_text last → three ≡ old ++ flat_map row_text (first ∷ (others ++ last ∷ []))
header_put old one two three first others last p q r =
    r ∙ ap (λ (k : List ℕ). k ++ row_text last) (q ∙ ap (λ (k : List ℕ). k ++ flat_map row_text others) p)
    ∙ regroup_three old (row_text first) (flat_map row_text others) (row_text last)
    ∙ ap (λ (k : List ℕ). old ++ (row_text first ++ (flat_map row_text others ++ k))) (sym (append-nil (row_text last)))
    ∙ ap (λ (k : List ℕ). old ++ (row_text first ++ k)) (sym (texts_front row_text others (last ∷ [])))

abbrev texts_at : ℕ → List Object → List ℕ
texts_at device objects = flat_map (λ object. row_text (point_row (object_point device object))) objects

abbrev objects_text : Configuration → List ℕ
objects_text c = texts_at c.device.instance c.objects

-- the whole list
pub list_put : (c : Configuration) (device : Device) (objects : List Object) (instance : ℕ) (none one two three : List ℕ)
    → none ≡ [] → device ≡ c.device → objects ≡ c.objects → instance ≡ device.instance → one ≡ none ++ flat_map row_text (header_rows device)
    → two ≡ one ++ row_text (point_row (device_point device))
    → three ≡ two ++ flat_map (λ object. row_text (point_row (object_point instance object))) objects → three ≡ points_text c
list_put c device objects instance none one two three empty of_device of_objects of_instance p q r =
    let header : one ≡ flat_map row_text (header_rows c.device) =
    p ∙ ap (λ (k : List ℕ). k ++ flat_map row_text (header_rows device)) empty ∙ ap (λ (d : Device). flat_map row_text (header_rows d)) of_device in
    let first : two ≡ one ++ row_text (point_row (device_point c.device)) = q ∙ ap (λ (d : Device). one ++ row_text (point_row (device_point d))) of_device in
    let others : three ≡ two ++ objects_text c =
    r ∙ ap (λ (os : List Object). two ++ texts_at instance os) of_objects
    ∙ ap (λ (i : ℕ). two ++ texts_at i c.objects) (of_instance ∙ ap (λ (d : Device). d.instance) of_device) in
    others ∙ ap (λ (k : List ℕ). k ++ objects_text c) (first ∙ ap (λ (k : List ℕ). k ++ row_text (point_row (device_point c.device))) header)
    ∙ append_assoc (flat_map row_text (header_rows c.device)) (row_text (point_row (device_point c.device))) (objects_text c)
    ∙ sym (points_parts c)
