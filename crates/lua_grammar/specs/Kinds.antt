-- The terminals of the grammar by their names.
use Rattle.lua_lexer.specs.declared.token.TokenKind.TheVariants as token_kind
use Rattle.lua_grammar.specs.Signs.{Terminal, token, end}

pattern abbrev pub And : Terminal
And = token token_kind.And

pattern abbrev pub Break : Terminal
Break = token token_kind.Break

pattern abbrev pub Do : Terminal
Do = token token_kind.Do

pattern abbrev pub Else : Terminal
Else = token token_kind.Else

pattern abbrev pub Elseif : Terminal
Elseif = token token_kind.Elseif

pattern abbrev pub End : Terminal
End = token token_kind.End

pattern abbrev pub False : Terminal
False = token token_kind.False

pattern abbrev pub For : Terminal
For = token token_kind.For

pattern abbrev pub Function : Terminal
Function = token token_kind.Function

pattern abbrev pub Goto : Terminal
Goto = token token_kind.Goto

pattern abbrev pub If : Terminal
If = token token_kind.If

pattern abbrev pub In : Terminal
In = token token_kind.In

pattern abbrev pub Local : Terminal
Local = token token_kind.Local

pattern abbrev pub Nil : Terminal
Nil = token token_kind.Nil

pattern abbrev pub Not : Terminal
Not = token token_kind.Not

pattern abbrev pub Or : Terminal
Or = token token_kind.Or

pattern abbrev pub Repeat : Terminal
Repeat = token token_kind.Repeat

pattern abbrev pub Return : Terminal
Return = token token_kind.Return

pattern abbrev pub Then : Terminal
Then = token token_kind.Then

pattern abbrev pub True : Terminal
True = token token_kind.True

pattern abbrev pub Until : Terminal
Until = token token_kind.Until

pattern abbrev pub While : Terminal
While = token token_kind.While

pattern abbrev pub Plus : Terminal
Plus = token token_kind.Plus

pattern abbrev pub Minus : Terminal
Minus = token token_kind.Minus

pattern abbrev pub Star : Terminal
Star = token token_kind.Star

pattern abbrev pub Slash : Terminal
Slash = token token_kind.Slash

pattern abbrev pub Percent : Terminal
Percent = token token_kind.Percent

pattern abbrev pub Caret : Terminal
Caret = token token_kind.Caret

pattern abbrev pub Hash : Terminal
Hash = token token_kind.Hash

pattern abbrev pub Equal : Terminal
Equal = token token_kind.Equal

pattern abbrev pub NotEqual : Terminal
NotEqual = token token_kind.NotEqual

pattern abbrev pub LessEqual : Terminal
LessEqual = token token_kind.LessEqual

pattern abbrev pub GreaterEqual : Terminal
GreaterEqual = token token_kind.GreaterEqual

pattern abbrev pub Less : Terminal
Less = token token_kind.Less

pattern abbrev pub Greater : Terminal
Greater = token token_kind.Greater

pattern abbrev pub Assign : Terminal
Assign = token token_kind.Assign

pattern abbrev pub OpenParen : Terminal
OpenParen = token token_kind.OpenParen

pattern abbrev pub CloseParen : Terminal
CloseParen = token token_kind.CloseParen

pattern abbrev pub OpenBrace : Terminal
OpenBrace = token token_kind.OpenBrace

pattern abbrev pub CloseBrace : Terminal
CloseBrace = token token_kind.CloseBrace

pattern abbrev pub OpenBracket : Terminal
OpenBracket = token token_kind.OpenBracket

pattern abbrev pub CloseBracket : Terminal
CloseBracket = token token_kind.CloseBracket

pattern abbrev pub DoubleColon : Terminal
DoubleColon = token token_kind.DoubleColon

pattern abbrev pub Semicolon : Terminal
Semicolon = token token_kind.Semicolon

pattern abbrev pub Colon : Terminal
Colon = token token_kind.Colon

pattern abbrev pub Comma : Terminal
Comma = token token_kind.Comma

pattern abbrev pub Dot : Terminal
Dot = token token_kind.Dot

pattern abbrev pub Concat : Terminal
Concat = token token_kind.Concat

pattern abbrev pub Ellipsis : Terminal
Ellipsis = token token_kind.Ellipsis

pattern abbrev pub Name : Terminal
Name = token token_kind.Name

pattern abbrev pub Text : Terminal
Text = token token_kind.Text

pattern abbrev pub Numeral : Terminal
Numeral = token token_kind.Numeral

pattern abbrev pub EndOfText : Terminal
EndOfText = end
