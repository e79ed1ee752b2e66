-- The items of the code, in the grammar's words.
use Rattle.std.specs.Prelude.{List, ℕ, chars, String, string_bytes}
use Rattle.std.specs.Cow.{cow_str_bytes}
use Rattle.std.specs.declared.alloc.Global.{Global}
use Rattle.std.specs.declared.borrow.CowStr.{CowStr}
use Rattle.ini_text.specs.Grammar.Elements.{Given, Header, Pair}
use Rattle.ini_text.specs.declared.item.Item.{Item}
use Rattle.ini_text.specs.declared.item.Item.TheVariants as items
use Rattle.ini_text.specs.declared.item.BorrowedItem.{BorrowedItem}
use Rattle.ini_text.specs.declared.item.BorrowedItem.TheVariants as borrowed

-- the characters of a string
abbrev pub string_text : String Global → List ℕ
string_text s = chars (string_bytes s)

abbrev pub item_of : Item → Given
item_of (items.Header name) = Header (string_text name)
item_of (items.Pair key value) = Pair (string_text key) (string_text value)

-- the characters of a text that is borrowed or owned
abbrev pub cow_text : CowStr Global → List ℕ
cow_text c = chars (cow_str_bytes c)

abbrev pub borrowed_item_of : BorrowedItem → Given
borrowed_item_of (borrowed.Header name) = Header (cow_text name)
borrowed_item_of (borrowed.Pair key value) = Pair (cow_text key) (cow_text value)
