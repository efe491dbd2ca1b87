-- The text of a page.
use Rattle.std.specs.Prelude.{ℕ, ◌+◌, ◌-◌, ◌^◌, ◌++◌, ◌==◌, ◌&&◌, if◌then◌else◌, min, nat_lt, List, [], ◌∷◌, length, codes, decimal, flat_map, Option, Some, slice_get}
use Rattle.std.specs.String.{string_bytes}
use Rattle.std.specs.Str.{byte}
use Rattle.bw_film.specs.declared.film.Film.{Film}
use Rattle.bw_film.specs.declared.frame.Frame.{Frame}
use Rattle.bw_film.specs.declared.crew.Standing.{Standing}
use Rattle.bw_film.specs.declared.page.text.TheConstants.{HEAD, CREW_STYLE, TOP, BODY, CREW, SCRIPT}
use Rattle.bw_film.specs.CrewPages.{crew_with}

-- a byte as it stands between the quotes of an attribute
abbrev pub escaped_byte : ℕ → List ℕ
escaped_byte letter =
    if letter == byte "&" then codes "&amp;" else
    if letter == byte "<" then codes "&lt;" else
    if letter == byte ">" then codes "&gt;" else
    if letter == 34 then codes "&quot;" else letter ∷ []

abbrev pub escaped : List ℕ → List ℕ
escaped text = flat_map escaped_byte text

-- the end of an attribute, and that of the name with the text
abbrev pub attribute_text : List ℕ → List ℕ → List ℕ
attribute_text name text = codes "\" data-" ++ name ++ codes "=\"" ++ escaped text

-- the beginning of a moment's element
abbrev pub moment_text : ℕ → List ℕ
moment_text moment = codes "<template data-moment=\"" ++ decimal moment

abbrev pub attributes_text : Frame → List ℕ
attributes_text frame =
    attribute_text (codes "told") (string_bytes frame.told)
    ++ attribute_text (codes "proved") frame.proved.now
    ++ attribute_text (codes "row") (string_bytes frame.row)
    ++ attribute_text (codes "note") (string_bytes frame.note)

abbrev pub drawing_text : List ℕ → List ℕ
drawing_text drawing = codes "\">\n" ++ drawing ++ codes "\n"

-- a frame: its texts are attributes, and the element has its drawing, and a table of what the workers do, where that is shown
abbrev pub frame_text : Frame → List ℕ
frame_text frame = moment_text frame.moment ++ attributes_text frame ++ drawing_text (string_bytes frame.drawing) ++ crew_with CREW.now frame.crew.items ++ codes "</template>\n"

abbrev pub whole_text : ℕ → ℕ → ℕ → List ℕ
whole_text first last moments = codes "Moments " ++ decimal first ++ codes " to " ++ decimal last ++ codes " are shown, of " ++ decimal moments ++ codes " in all."

abbrev pub cut_text : ℕ → ℕ → ℕ → ℕ → List ℕ
cut_text first last moments next = codes "Moments " ++ decimal first ++ codes " to " ++ decimal last ++ codes " are shown, of " ++ decimal moments ++ codes " in all: a page has " ++ decimal 200 ++ codes " at most, and --from " ++ decimal next ++ codes " goes on."

-- which moments are shown, and where a page that is cut goes on
abbrev pub span_between : ℕ → ℕ → ℕ → ℕ → List ℕ
span_between first last moments to =
    if nat_lt (min (last + 1) (2 ^ 64 - 1)) moments && nat_lt last to
    then cut_text first last moments (min (last + 1) (2 ^ 64 - 1))
    else whole_text first last moments

abbrev pub span_from : Option Frame → Option Frame → ℕ → ℕ → List ℕ
span_from (Some first) (Some last) moments to = span_between first.moment last.moment moments to
span_from first last moments to = codes "None of the " ++ decimal moments ++ codes " moments is shown."

abbrev pub span_text : Film → List ℕ
span_text film = span_from (slice_get film.frames.items 0) (slice_get film.frames.items (length film.frames.items - 1)) film.moments film.choice.to

-- no style where no worker is shown
abbrev pub style_for : List ℕ → List Standing → List ℕ
style_for style [] = []
style_for style (it ∷ more) = style

abbrev pub above_film : List ℕ → List ℕ → List ℕ → List ℕ → List ℕ → List ℕ
above_film head style top span body = head ++ style ++ top ++ span ++ body

abbrev pub page_with : List ℕ → List Frame → List ℕ → List ℕ
page_with above frames script = above ++ flat_map frame_text frames ++ script

-- the page has each frame of the film once, in their order
abbrev pub page_text : Film → List ℕ
page_text film = page_with (above_film HEAD.now (style_for CREW_STYLE.now film.crew.items) TOP.now (span_text film) BODY.now) film.frames.items SCRIPT.now
