-- SPDX-License-Identifier: Apache-2.0
pub mod PinsStand
pub mod CallsStand
pub mod ResizeStands
pub mod StepsStand
pub mod Sheets
pub mod Samples
pub mod Places
