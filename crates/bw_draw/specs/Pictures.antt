-- What a picture shows of a table.
use Rattle.std.specs.Prelude.{◌≡◌, ℕ, if◌then◌else◌, List, Option, Some, None, filter_map}
use Rattle.std.specs.List.{range_with_len}
use Rattle.bw_step.specs.Stages.{is_in_row}
use Rattle.bw_law.specs.Slots.{SlotValue, is_free}
use Rattle.bw_law.specs.Tables.{TableValue, slot_at}
use Rattle.bw_table.specs.Views.{view_of, root_place}
use Rattle.bw_draw.specs.declared.page.Page.{Page}
use Rattle.bw_draw.specs.declared.picture.Picture.{Picture}

-- the page of a slot: its view, and its chain if it is in a row
abbrev pub page_of : ℕ → SlotValue → Page
page_of page slot = record {
  view = view_of (record { 0 = page }) slot;
  chain = if is_in_row slot.stage then slot.chain else None;
}

-- the page with the id, if its slot isn't free
abbrev pub page_at : TableValue → ℕ → Option Page
page_at table page = let slot = slot_at table page in if is_free slot.stage then None else Some (page_of page slot)

-- the pages whose ids are below the end, in the order of their ids
abbrev pub pages_below : TableValue → ℕ → List Page
pages_below table end = filter_map (page_at table) (range_with_len 0 end)

-- all pages of the table
abbrev pub pages_of : TableValue → List Page
pages_of table = pages_below table table.config.pages

-- the picture has the root, the fanout, the slots and each page of the table, and no other page
pub record IsPictureOf (table : TableValue) (picture : Picture) : Type 0 where
  pub root : picture.root ≡ root_place table
  pub fanout : picture.fanout ≡ table.config.fanout
  pub slots : picture.slots ≡ table.config.pages
  pub pages : picture.pages.items ≡ pages_of table
